use Rattle.std.proofs.Common.{◌≡◌, ◌++◌, drop}
use Rattle.rcv_model.specs.Text.{body_of, bodies_of, body_from, bodies_from}
use Rattle.rcv_export.specs.Messages.{sorts_in, sorts_beside}
use Rattle.rcv_export.proofs.messages.+sorts.Given as goal

abbrev pub invariant-add_block-loop-stmt : goal.invariant-add_block-loop-stmt
invariant-add_block-loop-stmt l = l.sorts.items ++ sorts_in (body_from (drop l.stmt-index l.stmt-items)) ≡ l.fn.sorts.items ++ sorts_in (body_of l.fn.block)

abbrev pub invariant-add_blocks-loop-block : goal.invariant-add_blocks-loop-block
invariant-add_blocks-loop-block l = l.sorts.items ++ sorts_beside (bodies_from (drop l.block-index l.block-items)) ≡ l.fn.sorts.items ++ sorts_beside (bodies_of l.fn.blocks)
