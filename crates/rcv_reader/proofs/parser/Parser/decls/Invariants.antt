use Rattle.std.proofs.Common.{length}
use Rattle.rcv_tree.specs.Lists.{declarations}
use Rattle.rcv_reader.proofs.Reading.{DeclsSoFar}
use Rattle.rcv_reader.proofs.parser.Parser.decls.Given as goal

abbrev pub invariant-loop-alloc : goal.invariant-loop-alloc
invariant-loop-alloc l = DeclsSoFar l.fn.self l.self l.aliases (declarations l.list)

abbrev pub decreases-loop-alloc : goal.decreases-loop-alloc
decreases-loop-alloc l = length l.self.rest
