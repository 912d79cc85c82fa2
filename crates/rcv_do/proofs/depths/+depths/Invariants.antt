use Rattle.std.proofs.Common.{◌≡◌, ◌++◌, drop}
use Rattle.rcv_model.specs.Text.{body_of, bodies_of, body_from, bodies_from}
use Rattle.rcv_do.specs.Depths.{depths, depths_of}
use Rattle.rcv_do.proofs.depths.+depths.Given as goal

abbrev pub invariant-add_block-loop-stmt : goal.invariant-add_block-loop-stmt
invariant-add_block-loop-stmt l =
    l.depths.items ++ depths l.depth (body_from (drop l.stmt-index l.stmt-items)) ≡ l.fn.depths.items ++ depths l.depth (body_of l.fn.block)

abbrev pub invariant-add_blocks-loop-block : goal.invariant-add_blocks-loop-block
invariant-add_blocks-loop-block l =
    l.depths.items ++ depths_of l.depth (bodies_from (drop l.block-index l.block-items)) ≡ l.fn.depths.items ++ depths_of l.depth (bodies_of l.fn.blocks)
