-- The lines so far, and what is left of the name.
use Rattle.std.proofs.Common.{length}
use Rattle.rcv_picture.proofs.Naming.{AreTaken}
use Rattle.rcv_picture.proofs.name_lines.lines_of_name.Given as goal

abbrev pub invariant-loop-rest : goal.invariant-loop-rest
invariant-loop-rest l = AreTaken l.fn.name l.lines.items l.rest

abbrev pub decreases-loop-rest : goal.decreases-loop-rest
decreases-loop-rest l = length l.rest
