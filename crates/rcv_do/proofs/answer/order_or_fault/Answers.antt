use Rattle.std.proofs.Common.{◌≤◌, length, sym, subst, ◌∙◌}
use Rattle.rcv_module.specs.Refusing.{AreCallable}
use Rattle.rcv_do.specs.Code.{protocols_in, parts_in}
use Rattle.rcv_do.specs.Rows.{AreRowsOf, AreAcyclic}
use Rattle.rcv_do.proofs.Answering.{refused_first}
use Rattle.rcv_do.proofs.Faulting.{parts_long}
use Rattle.rcv_do.proofs.Orders.{rows_of, acyclic_of, call_order}
use Rattle.rcv_do.proofs.answer.order_or_fault.Goals as goal

pub returns-in-Some : goal.returns-in-Some
returns-in-Some c =
    let rows : AreRowsOf (parts_in c.args.parts.now) c.in_ok-rows.rows.items = rows_of (parts_in c.args.parts.now) c.as_slice.result.now c.count.result c.in_ok-rows.rows.items
    (c.count.ensures ∙ sym (parts_long (protocols_in c.args.parts.now))) (c.as_slice.ensures.value ∙ c.in_ok-calls.ensures.calls) c.in_ok-rows.ensures in
    let first = c.in-Some.ensures.first (c.as_slice-3.ensures.value ∙ c.in_ok-calls.ensures.calls)
    (subst (AreRowsOf (parts_in c.args.parts.now)) (sym c.as_slice-2.ensures.value) rows) in
    refused_first (parts_in c.args.parts.now) c.args.lines.now c.in-Some.fault c.in-Some.number c.refused.result c.requires.lines first c.refused.ensures

pub order_of-requires-clause-acyclic : goal.order_of-requires-clause-acyclic
order_of-requires-clause-acyclic c =
    let rows : AreRowsOf (parts_in c.args.parts.now) c.in_ok-rows.rows.items = rows_of (parts_in c.args.parts.now) c.as_slice.result.now c.count.result c.in_ok-rows.rows.items
    (c.count.ensures ∙ sym (parts_long (protocols_in c.args.parts.now))) (c.as_slice.ensures.value ∙ c.in_ok-calls.ensures.calls) c.in_ok-rows.ensures in
    let callable : AreCallable (parts_in c.args.parts.now) = c.in_default.ensures.first (c.as_slice-3.ensures.value ∙ c.in_ok-calls.ensures.calls)
    (subst (AreRowsOf (parts_in c.args.parts.now)) (sym c.as_slice-2.ensures.value) rows) in
    let few : length (parts_in c.args.parts.now) ≤ 64 = subst (λ n. n ≤ 64) (sym (parts_long (protocols_in c.args.parts.now))) c.requires.few in
    subst AreAcyclic (sym c.as_slice-4.ensures.value) (acyclic_of (parts_in c.args.parts.now) c.in_ok-rows.rows.items few callable rows)

pub returns : goal.returns
returns c =
    let rows : AreRowsOf (parts_in c.args.parts.now) c.in_ok-rows.rows.items = rows_of (parts_in c.args.parts.now) c.as_slice.result.now c.count.result c.in_ok-rows.rows.items
    (c.count.ensures ∙ sym (parts_long (protocols_in c.args.parts.now))) (c.as_slice.ensures.value ∙ c.in_ok-calls.ensures.calls) c.in_ok-rows.ensures in
    let callable : AreCallable (parts_in c.args.parts.now) = c.in_default.ensures.first (c.as_slice-3.ensures.value ∙ c.in_ok-calls.ensures.calls)
    (subst (AreRowsOf (parts_in c.args.parts.now)) (sym c.as_slice-2.ensures.value) rows) in
    call_order (parts_in c.args.parts.now) c.as_slice-4.result.now c.in_ok-order_of.field-0.items callable
    (subst (AreRowsOf (parts_in c.args.parts.now)) (sym c.as_slice-4.ensures.value) rows) c.in_ok-order_of.ensures
