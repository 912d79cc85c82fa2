use Rattle.std.proofs.Common.{sym, ◌∙◌, refl, ap, subst, ◌+◌, ◌<◌, drop, map}
use Rattle.rcv_tree.specs.Lists.{statements, blocks}
use Rattle.rcv_model.specs.Text.{body_of, bodies_of, body_from, bodies_from}
use Rattle.rcv_model.proofs.Text.{body_of_lem, bodies_of_lem}
use Rattle.rcv_module.specs.Parts.{place}
use Rattle.rcv_do.specs.Code.{parts_in, protocols_in}
use Rattle.rcv_do.specs.Copying.{stands_of}
use Rattle.rcv_do.proofs.Items.{step_on, no_more}
use Rattle.rcv_do.proofs.Counted.{on_ok}
use Rattle.rcv_do.proofs.Deep.{less_left}
use Rattle.rcv_do.proofs.Faulting.{parts_long}
use Rattle.rcv_do.proofs.Orders.{place_inside}
use Rattle.rcv_do.proofs.Expanded.{expanded_next, expanded_all, all_expanded_next, all_expanded_all, expands_message, expands_continue, expands_choice, expands_par, expands_rec, expands_call}
use Rattle.rcv_do.proofs.expansion.Expanding.+expand.Goals as goal

pub add_all-loop-stmt-preserved : goal.add_all-loop-stmt-preserved
add_all-loop-stmt-preserved t c =
    expanded_next c.args.self.now c.args.points.now c.loop-stmt.points c.add.new.points (body_of c.args.stmts.now)
    (body_from (drop c.loop-stmt.stmt-index c.as_slice-stmt-items.result.now)) (body_from (drop (c.loop-stmt.stmt-index + 1) c.as_slice-stmt-items.result.now))
    c.stmt-item.result _ _ _
    (ap body_from (step_on c.as_slice-stmt-items.result.now c.loop-stmt.stmt-index c.stmt-item.result c.loop-stmt-test.true c.stmt-item.is))
    c.loop-stmt.invariant c.in_ok-add.ensures

pub add_all-returns : goal.add_all-returns
add_all-returns t c =
    expanded_all c.args.self.now c.args.points.now c.loop-stmt.points (body_of c.args.stmts.now)
    (body_from (drop c.loop-stmt.stmt-index c.as_slice-stmt-items.result.now)) _ _
    (ap body_from (no_more c.as_slice-stmt-items.result.now c.loop-stmt.stmt-index c.loop-stmt-test.false)) c.loop-stmt.invariant

pub blocks-loop-block-preserved : goal.blocks-loop-block-preserved
blocks-loop-block-preserved t c =
    all_expanded_next c.args.self.now c.args.points.now c.loop-block.points c.add_all.new.points (bodies_of c.args.list.now)
    (bodies_from (drop c.loop-block.block-index c.as_slice-block-items.result.now)) (bodies_from (drop (c.loop-block.block-index + 1) c.as_slice-block-items.result.now))
    (body_of c.block-item.result) c.add_all.new.block (blocks c.loop-block.expansions) (blocks c.push.new.self) (statements c.new-expansion.result) (statements c.add_all.new.block)
    (ap bodies_from (step_on c.as_slice-block-items.result.now c.loop-block.block-index c.block-item.result c.loop-block-test.true c.block-item.is))
    c.in_ok-push.ensures.ok (body_of_lem c.add_all.new.block) c.new-expansion.ensures c.loop-block.invariant c.in_ok-add_all.ensures

pub blocks-returns : goal.blocks-returns
blocks-returns t c =
    all_expanded_all c.args.self.now c.args.points.now c.loop-block.points (bodies_of c.args.list.now)
    (bodies_from (drop c.loop-block.block-index c.as_slice-block-items.result.now)) (bodies_of c.loop-block.expansions) (blocks c.loop-block.expansions)
    (ap bodies_from (no_more c.as_slice-block-items.result.now c.loop-block.block-index c.loop-block-test.false)) (bodies_of_lem c.loop-block.expansions) c.loop-block.invariant

pub add-returns-in_ok-of-in-Message : goal.add-returns-in_ok-of-in-Message
add-returns-in_ok-of-in-Message t c =
    on_ok c.push.result
    (expands_message c.args.self.now c.args.points.now c.saturating_add.result c.args.stmt.now _ c.in-Message.label c.in_ok-of-in-Message.field-0
    c.in-Message.sorts c.in_ok-sorts-in-Message.sorts c.in-Message.sender c.in-Message.receiver c.in-Message.point c.standing.result c.standing-in-Message.result
    (statements c.args.block.now) (statements c.push.new.self) c.in-Message.is refl (c.in_ok-of-in-Message.ensures ∙ c.as_slice.ensures)
    c.in_ok-sorts-in-Message.ensures c.standing.ensures c.standing-in-Message.ensures c.saturating_add.ensures) c.push.ensures.ok

pub add-returns-in_ok-branches-in-Choice : goal.add-returns-in_ok-branches-in-Choice
add-returns-in_ok-branches-in-Choice t c =
    on_ok c.push-in-Choice.result
    (expands_choice c.args.self.now c.args.points.now c.blocks-in-Choice.new.points c.args.stmt.now _ c.in-Choice.subject c.standing-in-Choice.result
    c.in-Choice.branches c.in_ok-branches-in-Choice.branches (statements c.args.block.now) (statements c.push-in-Choice.new.self) c.in-Choice.is refl
    c.standing-in-Choice.ensures c.in_ok-branches-in-Choice.ensures) c.push-in-Choice.ensures.ok

pub add-returns-in_ok-of-in-Rec : goal.add-returns-in_ok-of-in-Rec
add-returns-in_ok-of-in-Rec t c =
    on_ok c.push-in-Rec.result
    (expands_rec c.args.self.now c.args.points.now c.add_all.new.points c.args.stmt.now _ c.in-Rec.name c.in_ok-of-in-Rec.field-0 c.in-Rec.body
    c.add_all.new.block (statements c.new-copy.result) (statements c.add_all.new.block) (statements c.args.block.now) (statements c.push-in-Rec.new.self)
    c.in-Rec.is refl (c.in_ok-of-in-Rec.ensures ∙ c.as_slice-in-Rec.ensures) (body_of_lem c.add_all.new.block) c.new-copy.ensures
    c.in_ok-add_all-in-Rec.ensures) c.push-in-Rec.ensures.ok

pub add-returns-in_ok-name-in-Continue : goal.add-returns-in_ok-name-in-Continue
add-returns-in_ok-name-in-Continue t c =
    on_ok c.push-in-Continue.result
    (expands_continue c.args.self.now c.args.points.now c.args.stmt.now _ c.in-Continue.name c.in_ok-name-in-Continue.name (statements c.args.block.now)
    (statements c.push-in-Continue.new.self) c.in-Continue.is refl (c.in_ok-name-in-Continue.ensures ∙ c.as_slice-in-Continue.ensures)) c.push-in-Continue.ensures.ok

pub add-returns-in_ok-blocks-in-Par : goal.add-returns-in_ok-blocks-in-Par
add-returns-in_ok-blocks-in-Par t c =
    on_ok c.push-in-Par.result
    (expands_par c.args.self.now c.args.points.now c.blocks-in-Par.new.points c.args.stmt.now _ c.in-Par.blocks c.in_ok-blocks-in-Par.blocks
    (statements c.args.block.now) (statements c.push-in-Par.new.self) c.in-Par.is refl c.in_ok-blocks-in-Par.ensures) c.push-in-Par.ensures.ok

pub add-at-requires : goal.add-at-requires
add-at-requires t c =
    let inside = place_inside (parts_in c.args.self.now.parts) c.as_slice-in-Do.result.now c.in-Some.target (sym c.in-Some.ensures) in
    let long = parts_long (protocols_in c.args.self.now.parts) in
    subst (λ n. c.in-Some.target < n) long inside

pub add-add_all-requires-in-Do : goal.add-add_all-requires-in-Do
add-add_all-requires-in-Do t c =
    (less_left (protocols_in c.args.self.now.parts) c.args.self.now.under.now c.in-Some-before.under.now c.in-Some.target c.at.result.now _ t c.at.ensures c.in-Some-before.ensures.some c.decreases, tt)

pub add-returns-in_ok-arguments-in-Do : goal.add-returns-in_ok-arguments-in-Do
add-returns-in_ok-arguments-in-Do t c =
    on_ok c.add_all-in-Do.result
    (expands_call c.args.self.now _ c.args.points.now c.add_all-in-Do.new.points c.in-Some.target c.standing-in-Do.result c.args.stmt.now
    c.in-Do.protocol c.in-Do.roles c.as_slice-in-Do-3.result.now c.at.result.now (statements c.args.block.now) (statements c.add_all-in-Do.new.block) c.in-Do.is
    (sym (c.in-Some.ensures ∙ ap (place (parts_in c.args.self.now.parts)) c.as_slice-in-Do.ensures)) c.at.ensures c.in-Some-before.ensures.some refl
    (c.as_slice-in-Do-3.ensures.value ∙ c.in_ok-arguments-in-Do.ensures ∙ ap (map (stands_of c.args.self.now)) c.as_slice-in-Do-2.ensures)
    c.standing-in-Do.ensures (λ r. refl)) c.add_all-in-Do.ensures
