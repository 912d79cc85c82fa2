use Rattle.std.proofs.Common.{drop}
use Rattle.rcv_model.specs.Text.{body_of, bodies_of, body_from, bodies_from}
use Rattle.rcv_do.specs.Code.{protocols_in}
use Rattle.rcv_do.proofs.Deep.{left_to_do}
use Rattle.rcv_do.proofs.Traced.{SoFar, AllSoFar}
use Rattle.rcv_do.proofs.trace.Tracing.+trace.Given as goal

abbrev pub decreases-block : goal.decreases-block
decreases-block l = left_to_do (protocols_in l.self.now.parts) l.self.now.under.now (goal.size-block l)

abbrev pub decreases-blocks : goal.decreases-blocks
decreases-blocks l = left_to_do (protocols_in l.self.now.parts) l.self.now.under.now (goal.size-blocks l)

abbrev pub decreases-stmt : goal.decreases-stmt
decreases-stmt l = left_to_do (protocols_in l.self.now.parts) l.self.now.under.now (goal.size-stmt l)

abbrev pub invariant-block-loop-stmt : goal.invariant-block-loop-stmt
invariant-block-loop-stmt l = SoFar l.self l.fn.number l.number (body_of l.fn.block) (body_from (drop l.stmt-index l.stmt-items)) l.fn.points.items l.points.items

abbrev pub invariant-blocks-loop-block : goal.invariant-blocks-loop-block
invariant-blocks-loop-block l = AllSoFar l.self l.fn.number l.number (bodies_of l.fn.blocks) (bodies_from (drop l.block-index l.block-items)) l.fn.points.items l.points.items
