use Rattle.std.proofs.Common.{◌≡◌, ℕ, List, ◌++◌, drop}
use Rattle.rcv_model.specs.Text.{body_of, bodies_of, body_from, bodies_from}
use Rattle.rcv_printer.specs.CanonicalText.{body_text, blocks_text}
use Rattle.rcv_printer.proofs.statements.+statements.Given as goal

abbrev pub invariant-put_block-loop-stmt : goal.invariant-put_block-loop-stmt
invariant-put_block-loop-stmt l =
    (next : List ℕ) → l.text ++ body_text l.roles l.margin (body_from (drop l.stmt-index l.stmt-items)) next ≡ l.fn.text ++ body_text l.roles l.margin (body_of l.fn.block) next

abbrev pub invariant-put_blocks-loop-block : goal.invariant-put_blocks-loop-block
invariant-put_blocks-loop-block l =
    (next : List ℕ) → l.text ++ blocks_text l.roles l.margin l.word l.between (bodies_from (drop l.block-index l.block-items)) next ≡ l.fn.text ++ blocks_text l.roles l.margin l.before l.between (bodies_of l.fn.blocks) next
