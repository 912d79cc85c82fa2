-- The lines so far are the right ones.
use Rattle.std.proofs.Common.{length}
use Rattle.rcv_retold.proofs.Comparing.{IsSoFar}
use Rattle.rcv_retold.proofs.lines.first_other.Given as goal

abbrev pub invariant-loop-text_left : goal.invariant-loop-text_left
invariant-loop-text_left l = IsSoFar l.text l.right l.text_left l.right_left l.number

abbrev pub decreases-loop-text_left : goal.decreases-loop-text_left
decreases-loop-text_left l = length l.text_left
