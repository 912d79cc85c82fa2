-- What a verdict on a journal says.
use Rattle.rcv_replay.specs.declared.replayed.Replayed.{Replayed}
use Rattle.rcv_replay.specs.declared.replayed.Replayed.TheVariants.{Refused, Legal, WrongEntry, WrongEnd}

-- It is the one on a journal that is legal and whole.
abbrev pub SaysLegal : Replayed → Type 0
SaysLegal (Legal entries limited) = Unit {0}
SaysLegal (Refused r) = ⊥
SaysLegal (WrongEntry k) = ⊥
SaysLegal WrongEnd = ⊥
