-- None so far is marked.
use Rattle.std.proofs.Common.{ℕ}
use Rattle.rcv_story.specs.Marks.{IsMarked, IsFromTo}
use Rattle.rcv_story.proofs.shown.has_marked.Given as goal

abbrev pub invariant-loop-place : goal.invariant-loop-place
invariant-loop-place l = (p : ℕ) → IsFromTo l.from l.place p → IsMarked l.marks p → ⊥
