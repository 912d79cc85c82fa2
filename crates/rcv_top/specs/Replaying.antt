-- What `replay` answers.
use Rattle.std.specs.Prelude.{◌≡◌, ℕ, List}
use Rattle.rcv_input.specs.Line.{refusal_line}
use Rattle.rcv_replay.specs.declared.replayed.Replayed.{Replayed}
use Rattle.rcv_replay.specs.declared.replayed.Replayed.TheVariants as replays
use Rattle.rcv_replay.specs.Lines.{legal_line, wrong_line, wrong_end_line}
use Rattle.rcv_replay.specs.Replaying.{IsReplay}
use Rattle.rcv_top.specs.declared.status.Status.{Status}
use Rattle.rcv_top.specs.declared.status.Status.TheVariants.{Completed, Refused, Wrong}

-- Status and bytes that say this.
abbrev pub IsSaidOf : Replayed → Status → List ℕ → Type 0
IsSaidOf (replays.Refused r) status bytes = (status ≡ Refused) × (bytes ≡ refusal_line r)
IsSaidOf (replays.Legal entries limited) status bytes = (status ≡ Completed) × (bytes ≡ legal_line entries limited)
IsSaidOf (replays.WrongEntry number) status bytes = (status ≡ Wrong) × (bytes ≡ wrong_line number)
IsSaidOf replays.WrongEnd status bytes = (status ≡ Wrong) × (bytes ≡ wrong_end_line)

-- Status and bytes say what the journal after the bundle is.
pub record IsReplayAnswer (input : List ℕ) (status : Status) (bytes : List ℕ) : Type 0 where
  pub said : Replayed
  pub is_said : IsReplay input said
  pub says : IsSaidOf said status bytes
