use Rattle.std.proofs.Common.{length}
use Rattle.rcv_tree.specs.Lists.{protocols}
use Rattle.rcv_reader.proofs.Modules.{ModuleSoFar}
use Rattle.rcv_reader.proofs.parser.Parser.module.Given as goal

abbrev pub invariant-loop-alloc : goal.invariant-loop-alloc
invariant-loop-alloc l = ModuleSoFar l.fn.self.rest l.self l.main (protocols l.others)

abbrev pub decreases-loop-alloc : goal.decreases-loop-alloc
decreases-loop-alloc l = length l.self.rest
