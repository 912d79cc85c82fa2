-- Verdicts.
use Rattle.std.specs.Prelude.{false}
use Rattle.rcv_replay.specs.declared.replayed.Replayed.TheVariants.{Legal, WrongEntry}
use Rattle.rcv_first_calls.specs.Verdicts.{SaysLegal}

legal : SaysLegal (Legal 4 false)
legal = tt

wrong : SaysLegal (WrongEntry 2) → ⊥
wrong says = says
