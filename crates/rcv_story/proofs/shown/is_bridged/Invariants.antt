-- None so far is marked with another after the place.
use Rattle.std.proofs.Common.{ℕ, ◌+◌, ◌-◌}
use Rattle.rcv_story.specs.Marks.{IsMarked, IsFromTo, HasMarked}
use Rattle.rcv_story.proofs.shown.is_bridged.Given as goal

abbrev pub invariant-loop-lower : goal.invariant-loop-lower
invariant-loop-lower l = (n : ℕ) → IsFromTo (l.place - 5) l.lower n → IsMarked l.marks n → HasMarked l.marks (l.place + 1) (n + 5 + 1) → ⊥
