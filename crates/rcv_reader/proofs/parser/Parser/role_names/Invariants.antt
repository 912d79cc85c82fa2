use Rattle.std.proofs.Common.{length}
use Rattle.rcv_reader.proofs.Reading.{RolesSoFar}
use Rattle.rcv_reader.proofs.parser.Parser.role_names.Given as goal

abbrev pub invariant-loop-self : goal.invariant-loop-self
invariant-loop-self l = RolesSoFar l.fn.self l.self

abbrev pub decreases-loop-self : goal.decreases-loop-self
decreases-loop-self l = length l.self.rest
