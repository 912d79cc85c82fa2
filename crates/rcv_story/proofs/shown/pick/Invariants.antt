-- What is at the ends, or near the recoveries so far.
use Rattle.std.specs.Prelude.{length}
use Rattle.rcv_story.specs.Marks.{AddsMarks}
use Rattle.rcv_story.proofs.Showing.{IsPickedTill}
use Rattle.rcv_story.proofs.shown.pick.Given as goal

abbrev pub invariant-loop-number : goal.invariant-loop-number
invariant-loop-number l = AddsMarks (IsPickedTill (length l.fn.shown) l.recoveries l.number) l.fn.shown l.shown
