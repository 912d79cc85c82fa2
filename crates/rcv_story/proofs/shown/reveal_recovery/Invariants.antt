-- What is near the recovery, by the roles so far.
use Rattle.rcv_story.specs.Marks.{AddsMarks}
use Rattle.rcv_story.proofs.Showing.{IsNearBy}
use Rattle.rcv_story.proofs.shown.reveal_recovery.Given as goal

abbrev pub invariant-loop-first : goal.invariant-loop-first
invariant-loop-first l = AddsMarks (IsNearBy l.recovery l.first-index) l.fn.shown l.shown
