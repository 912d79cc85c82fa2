use Rattle.std.proofs.Common.{◌+◌, ◌*◌, length}
use Rattle.rcv_tree.specs.Lists.{statements, blocks}
use Rattle.rcv_reader.proofs.Blocks.{StmtsSoFar, ChoiceSoFar, ParSoFar}
use Rattle.rcv_reader.proofs.parser.Parser.+descent.Given as goal

abbrev pub decreases-block : goal.decreases-block
decreases-block l = 3 * length l.self.now.rest

abbrev pub decreases-choice : goal.decreases-choice
decreases-choice l = 3 * length l.self.now.rest + 2

abbrev pub decreases-lane : goal.decreases-lane
decreases-lane l = 3 * length l.self.now.rest + 1

abbrev pub decreases-par : goal.decreases-par
decreases-par l = 3 * length l.self.now.rest + 2

abbrev pub decreases-recursion : goal.decreases-recursion
decreases-recursion l = 3 * length l.self.now.rest + 2

abbrev pub decreases-stmt : goal.decreases-stmt
decreases-stmt l = 3 * length l.self.now.rest

abbrev pub decreases-stmts : goal.decreases-stmts
decreases-stmts l = 3 * length l.self.now.rest + 1

abbrev pub invariant-stmts-loop-alloc : goal.invariant-stmts-loop-alloc
invariant-stmts-loop-alloc l = StmtsSoFar l.fn.self l.self l.fn.spot l.here (statements l.fn.block) (statements l.block)

abbrev pub decreases-stmts-loop-alloc : goal.decreases-stmts-loop-alloc
decreases-stmts-loop-alloc l = length l.self.rest

abbrev pub invariant-choice-loop-branches : goal.invariant-choice-loop-branches
invariant-choice-loop-branches l = ChoiceSoFar l.fn.self l.self l.spot l.subject (blocks l.branches)

abbrev pub decreases-choice-loop-branches : goal.decreases-choice-loop-branches
decreases-choice-loop-branches l = length l.self.rest

abbrev pub invariant-par-loop-blocks : goal.invariant-par-loop-blocks
invariant-par-loop-blocks l = ParSoFar l.fn.self l.self l.spot (blocks l.blocks)

abbrev pub decreases-par-loop-blocks : goal.decreases-par-loop-blocks
decreases-par-loop-blocks l = length l.self.rest
