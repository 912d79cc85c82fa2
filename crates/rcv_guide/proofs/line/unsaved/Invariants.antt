use Rattle.std.proofs.Common.{◌<◌, ◌-◌, ℕ}
use Rattle.std.specs.Prelude.{slice_index}
use Rattle.rcv_guide.specs.Numbers.{numbers_at}
use Rattle.rcv_guide.specs.Line.{IsSavedBehind}
use Rattle.rcv_guide.proofs.line.unsaved.Given as goal

abbrev pub invariant-loop-role : goal.invariant-loop-role
invariant-loop-role l = (r : ℕ) → r < l.role → IsSavedBehind l.numbers l.saves r (slice_index l.counts r - (numbers_at l.numbers r).seeds)
