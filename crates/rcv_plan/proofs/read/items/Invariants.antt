use Rattle.std.proofs.Common.{length}
use Rattle.rcv_plan.proofs.Exactly.{SoFar}
use Rattle.rcv_plan.proofs.read.items.Given as goal

abbrev pub invariant-loop-alloc : goal.invariant-loop-alloc
invariant-loop-alloc l = SoFar l.fn.roles l.fn.reader.rest l.reader.rest l.known

abbrev pub decreases-loop-alloc : goal.decreases-loop-alloc
decreases-loop-alloc l = length l.reader.rest
