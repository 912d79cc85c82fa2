use Rattle.std.proofs.Common.{◌≡◌, drop}
use Rattle.rcv_model.specs.Text.{body_of, bodies_of, body_from, bodies_from}
use Rattle.rcv_charts.specs.Statements.{points_of, points_beside, reached}
use Rattle.rcv_charts.proofs.reach.Reach.+reach.Given as goal

abbrev pub invariant-with_block-loop-stmt : goal.invariant-with_block-loop-stmt
invariant-with_block-loop-stmt l = reached l.reach (points_of (body_from (drop l.stmt-index l.stmt-items))) ≡ reached l.fn.self (points_of (body_of l.fn.block))

abbrev pub invariant-with_blocks-loop-block : goal.invariant-with_blocks-loop-block
invariant-with_blocks-loop-block l = reached l.reach (points_beside (bodies_from (drop l.block-index l.block-items))) ≡ reached l.fn.self (points_beside (bodies_of l.fn.blocks))
