use Rattle.std.proofs.Common.{drop}
use Rattle.rcv_tree.specs.Lists.{statements, blocks}
use Rattle.rcv_model.specs.Text.{body_of, bodies_of, body_from, bodies_from}
use Rattle.rcv_do.specs.Code.{protocols_in}
use Rattle.rcv_do.proofs.Deep.{left_to_do}
use Rattle.rcv_do.proofs.Expanded.{ExpandedSoFar, AllExpandedSoFar}
use Rattle.rcv_do.proofs.expansion.Expanding.+expand.Given as goal

abbrev pub decreases-add_all : goal.decreases-add_all
decreases-add_all l = left_to_do (protocols_in l.self.now.parts) l.self.now.under.now (goal.size-add_all l)

abbrev pub decreases-blocks : goal.decreases-blocks
decreases-blocks l = left_to_do (protocols_in l.self.now.parts) l.self.now.under.now (goal.size-blocks l)

abbrev pub decreases-add : goal.decreases-add
decreases-add l = left_to_do (protocols_in l.self.now.parts) l.self.now.under.now (goal.size-add l)

abbrev pub invariant-add_all-loop-stmt : goal.invariant-add_all-loop-stmt
invariant-add_all-loop-stmt l =
    ExpandedSoFar l.self l.fn.points l.points (body_of l.fn.stmts) (body_from (drop l.stmt-index l.stmt-items)) (statements l.fn.block) (statements l.block)

abbrev pub invariant-blocks-loop-block : goal.invariant-blocks-loop-block
invariant-blocks-loop-block l =
    AllExpandedSoFar l.self l.fn.points l.points (bodies_of l.fn.list) (bodies_from (drop l.block-index l.block-items)) (blocks l.expansions)
