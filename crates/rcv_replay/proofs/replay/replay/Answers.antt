-- Nothing is cut.
use Rattle.std.proofs.Common.{ℕ, ◌+◌, inl, sym, ap}
use Rattle.rcv_input.specs.declared.refused.Refused.TheVariants.{Line}
use Rattle.rcv_replay.specs.declared.replayed.Replayed.TheVariants.{Refused}
use Rattle.rcv_replay.proofs.replay.replay.Goals as goal

pub returns-in-None : goal.returns-in-None
returns-in-None c = inl (sym c.in-None.ensures.is, ap (λ (n : ℕ). Refused (Line 50 (1 + n))) c.line_feeds.ensures)
