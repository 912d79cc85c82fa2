use Rattle.std.proofs.Common.{◌+◌, ◌<◌, drop, refl, sym, ap, subst, ◌∙◌}
use Rattle.rcv_model.specs.Text.{body_of, bodies_of, body_from, bodies_from}
use Rattle.rcv_module.specs.Parts.{place}
use Rattle.rcv_do.specs.Code.{parts_in, protocols_in}
use Rattle.rcv_do.proofs.Items.{step_on, no_more}
use Rattle.rcv_do.proofs.Counted.{on_ok}
use Rattle.rcv_do.proofs.Deep.{less_left}
use Rattle.rcv_do.proofs.Faulting.{parts_long}
use Rattle.rcv_do.proofs.Orders.{place_inside}
use Rattle.rcv_do.proofs.Traced.{next, all, all_next, all_all, traces_message, traces_continue, traces_choice, traces_par, traces_rec, traces_call}
use Rattle.rcv_do.proofs.trace.Tracing.+trace.Goals as goal

pub block-loop-stmt-preserved : goal.block-loop-stmt-preserved
block-loop-stmt-preserved t c =
    next c.args.self.now c.args.number.now c.loop-stmt.number c.stmt.new.number (body_of c.args.block.now)
    (body_from (drop c.loop-stmt.stmt-index c.as_slice-stmt-items.result.now)) (body_from (drop (c.loop-stmt.stmt-index + 1) c.as_slice-stmt-items.result.now))
    c.stmt-item.result _ _ _
    (ap body_from (step_on c.as_slice-stmt-items.result.now c.loop-stmt.stmt-index c.stmt-item.result c.loop-stmt-test.true c.stmt-item.is))
    c.loop-stmt.invariant c.in_ok-stmt.ensures

pub block-returns : goal.block-returns
block-returns t c =
    all c.args.self.now c.args.number.now c.loop-stmt.number (body_of c.args.block.now)
    (body_from (drop c.loop-stmt.stmt-index c.as_slice-stmt-items.result.now)) _ _
    (ap body_from (no_more c.as_slice-stmt-items.result.now c.loop-stmt.stmt-index c.loop-stmt-test.false)) c.loop-stmt.invariant

pub blocks-loop-block-preserved : goal.blocks-loop-block-preserved
blocks-loop-block-preserved t c =
    all_next c.args.self.now c.args.number.now c.loop-block.number c.block.new.number (bodies_of c.args.blocks.now)
    (bodies_from (drop c.loop-block.block-index c.as_slice-block-items.result.now)) (bodies_from (drop (c.loop-block.block-index + 1) c.as_slice-block-items.result.now))
    (body_of c.block-item.result) _ _ _
    (ap bodies_from (step_on c.as_slice-block-items.result.now c.loop-block.block-index c.block-item.result c.loop-block-test.true c.block-item.is))
    c.loop-block.invariant c.in_ok-block.ensures

pub blocks-returns : goal.blocks-returns
blocks-returns t c =
    all_all c.args.self.now c.args.number.now c.loop-block.number (bodies_of c.args.blocks.now)
    (bodies_from (drop c.loop-block.block-index c.as_slice-block-items.result.now)) _ _
    (ap bodies_from (no_more c.as_slice-block-items.result.now c.loop-block.block-index c.loop-block-test.false)) c.loop-block.invariant

pub stmt-at-requires : goal.stmt-at-requires
stmt-at-requires t c =
    let inside = place_inside (parts_in c.args.self.now.parts) c.as_slice.result.now c.in-Some.target (sym c.in-Some.ensures) in
    let long = parts_long (protocols_in c.args.self.now.parts) in
    subst (λ n. c.in-Some.target < n) long inside

pub stmt-block-requires-in-Do : goal.stmt-block-requires-in-Do
stmt-block-requires-in-Do t c =
    (less_left (protocols_in c.args.self.now.parts) c.args.self.now.under.now c.in-Some-before.under.now c.in-Some.target c.at.result.now _ t c.at.ensures c.in-Some-before.ensures.some c.decreases, tt)

pub stmt-returns-in_ok-push-in-Message : goal.stmt-returns-in_ok-push-in-Message
stmt-returns-in_ok-push-in-Message t c =
    traces_message c.args.self.now c.args.number.now c.args.stmt.now c.in-Message.label c.in-Message.sorts c.in-Message.sender c.in-Message.receiver c.in-Message.point _ _ _
    c.in-Message.is (record { holds = refl; points = refl; came = c.in_ok-from_slice-in-Message.ensures.items }) c.in_ok-push-in-Message.ensures.items

pub stmt-returns-in-Continue : goal.stmt-returns-in-Continue
stmt-returns-in-Continue t c = traces_continue c.args.self.now c.args.number.now c.args.stmt.now c.in-Continue.name _ c.in-Continue.is

pub stmt-returns-in-Choice : goal.stmt-returns-in-Choice
stmt-returns-in-Choice t c =
    on_ok c.blocks-in-Choice.result
    (traces_choice c.args.self.now c.args.number.now c.blocks-in-Choice.new.number c.args.stmt.now c.in-Choice.subject c.in-Choice.branches _ _ c.in-Choice.is) c.blocks-in-Choice.ensures

pub stmt-returns-in-Par : goal.stmt-returns-in-Par
stmt-returns-in-Par t c =
    on_ok c.blocks-in-Par.result
    (traces_par c.args.self.now c.args.number.now c.blocks-in-Par.new.number c.args.stmt.now c.in-Par.blocks _ _ c.in-Par.is) c.blocks-in-Par.ensures

pub stmt-returns-in-Rec : goal.stmt-returns-in-Rec
stmt-returns-in-Rec t c =
    on_ok c.block.result
    (traces_rec c.args.self.now c.args.number.now c.block.new.number c.args.stmt.now c.in-Rec.name c.in-Rec.body _ _ c.in-Rec.is) c.block.ensures

pub stmt-returns-in_ok-through-in-Do : goal.stmt-returns-in_ok-through-in-Do
stmt-returns-in_ok-through-in-Do t c =
    on_ok c.block-in-Do.result
    (traces_call c.args.self.now _ c.args.number.now c.saturating_add.result c.first_of-first.result c.block-in-Do.new.number c.in-Some.target c.args.stmt.now
    c.in-Do.protocol c.in-Do.roles c.at.result.now _ _ c.in-Do.is
    (sym (c.in-Some.ensures ∙ ap (place (parts_in c.args.self.now.parts)) c.as_slice.ensures)) c.at.ensures c.in-Some-before.ensures.some refl refl refl
    (c.as_slice-in-Do.ensures.value ∙ c.in_ok-through-in-Do.ensures) c.first_of-first.ensures c.saturating_add.ensures) c.block-in-Do.ensures
