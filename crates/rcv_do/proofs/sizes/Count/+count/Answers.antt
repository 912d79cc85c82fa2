use Rattle.std.proofs.Common.{sym, ◌∙◌, refl, ap, ◌+◌, drop}
use Rattle.rcv_model.specs.Text.{body_of, bodies_of, body_from, bodies_from}
use Rattle.rcv_module.specs.Parts.{place}
use Rattle.rcv_do.specs.Code.{parts_in}
use Rattle.rcv_do.proofs.Items.{step_on, no_more}
use Rattle.rcv_do.proofs.Counted.{again_counted, message_counted, rec_counted, choice_counted, par_counted, next_counted, next_block_counted, block_counted, blocks_counted, call_counted, on_ok}
use Rattle.rcv_do.proofs.sizes.Count.+count.Goals as goal

pub stmt-returns-in-Message : goal.stmt-returns-in-Message
stmt-returns-in-Message t c =
    message_counted c.args.self.now c.args.depth c.args.stmt.now c.in-Message.label c.in-Message.sorts c.in-Message.sender
    c.in-Message.receiver c.in-Message.point c.one_point-self.result c.in-Message.is c.one_point-self.ensures.points c.one_point-self.ensures.blocks

pub stmt-returns-in-Continue : goal.stmt-returns-in-Continue
stmt-returns-in-Continue t c = again_counted c.args.self.now c.args.depth c.args.stmt.now c.in-Continue.name c.in-Continue.is

pub block-loop-stmt-preserved : goal.block-loop-stmt-preserved
block-loop-stmt-preserved t c =
    next_counted c.args.self.now c.loop-stmt.self c.stmt.new.self c.args.depth (body_of c.args.block.now)
    (body_from (drop c.loop-stmt.stmt-index c.as_slice-stmt-items.result.now)) (body_from (drop (c.loop-stmt.stmt-index + 1) c.as_slice-stmt-items.result.now))
    c.stmt-item.result
    (ap body_from (step_on c.as_slice-stmt-items.result.now c.loop-stmt.stmt-index c.stmt-item.result c.loop-stmt-test.true c.stmt-item.is))
    c.loop-stmt.invariant c.in_ok-stmt.ensures

pub block-returns : goal.block-returns
block-returns t c =
    block_counted c.args.self.now c.loop-stmt.self c.args.depth (body_of c.args.block.now)
    (body_from (drop c.loop-stmt.stmt-index c.as_slice-stmt-items.result.now))
    (ap body_from (no_more c.as_slice-stmt-items.result.now c.loop-stmt.stmt-index c.loop-stmt-test.false)) c.loop-stmt.invariant

pub blocks-loop-block-preserved : goal.blocks-loop-block-preserved
blocks-loop-block-preserved t c =
    next_block_counted c.args.self.now c.loop-block.self c.block.new.self c.args.depth (bodies_of c.args.blocks.now)
    (bodies_from (drop c.loop-block.block-index c.as_slice-block-items.result.now)) (bodies_from (drop (c.loop-block.block-index + 1) c.as_slice-block-items.result.now))
    (body_of c.block-item.result) c.opened-self.result
    (ap bodies_from (step_on c.as_slice-block-items.result.now c.loop-block.block-index c.block-item.result c.loop-block-test.true c.block-item.is))
    c.opened-self.ensures.points c.opened-self.ensures.blocks c.loop-block.invariant c.in_ok-block.ensures

pub blocks-returns : goal.blocks-returns
blocks-returns t c =
    blocks_counted c.args.self.now c.loop-block.self c.args.depth (bodies_of c.args.blocks.now)
    (bodies_from (drop c.loop-block.block-index c.as_slice-block-items.result.now))
    (ap bodies_from (no_more c.as_slice-block-items.result.now c.loop-block.block-index c.loop-block-test.false)) c.loop-block.invariant

pub stmt-returns-in-Choice : goal.stmt-returns-in-Choice
stmt-returns-in-Choice t c =
    on_ok c.blocks-in-Choice.result
    (choice_counted c.args.self.now c.blocks-in-Choice.new.self c.args.depth c.deeper-inner.result c.args.stmt.now c.in-Choice.subject c.in-Choice.branches
    c.in-Choice.is c.deeper-inner.ensures) c.blocks-in-Choice.ensures

pub stmt-returns-in-Par : goal.stmt-returns-in-Par
stmt-returns-in-Par t c =
    on_ok c.blocks-in-Par.result
    (par_counted c.args.self.now c.blocks-in-Par.new.self c.args.depth c.deeper-inner.result c.args.stmt.now c.in-Par.blocks
    c.in-Par.is c.deeper-inner.ensures) c.blocks-in-Par.ensures

pub stmt-returns-in-Rec : goal.stmt-returns-in-Rec
stmt-returns-in-Rec t c =
    on_ok c.block.result
    (rec_counted c.args.self.now c.block.new.self c.args.depth c.deeper-inner.result c.args.stmt.now c.in-Rec.name c.in-Rec.body
    c.opened-self.result c.in-Rec.is c.deeper-inner.ensures c.opened-self.ensures.points c.opened-self.ensures.blocks) c.block.ensures

pub stmt-returns-in_ok-push-in-Do : goal.stmt-returns-in_ok-push-in-Do
stmt-returns-in_ok-push-in-Do t c =
    call_counted c.args.self.now _ c.args.depth c.in-Some.target c.args.stmt.now c.in-Do.protocol c.in-Do.roles c.in-Some-known_at.size
    c.joined-self.result c.in-Do.is (sym (c.in-Some.ensures ∙ ap (place (parts_in c.args.self.now.parts)) c.as_slice.ensures)) (sym c.in-Some-known_at.ensures) c.joined-self.ensures.points
    c.joined-self.ensures.blocks refl refl refl c.in_ok-push-in-Do.ensures.items
