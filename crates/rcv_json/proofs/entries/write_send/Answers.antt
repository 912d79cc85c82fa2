-- The head stands at the place of its point, and names the event's role.
use Rattle.std.proofs.Common.{◌≡◌, List, ◌++◌, ℕ, OnOk, ◌-◌, codes, ◌∙◌, ap, get_or, subst, arith}
use Rattle.rcv_tree.specs.declared.event.Event.{Event}
use Rattle.rcv_session.specs.Session.{net_for}
use Rattle.rcv_journal.specs.Heads.{HeadView}
use Rattle.rcv_journal.proofs.Heads.{count_of, head_at}
use Rattle.rcv_json.specs.Heads.{head_json, rest_json}
use Rattle.rcv_json.proofs.Heads.{begun}
use Rattle.rcv_json.proofs.entries.write_send.Goals as goal

pub bounds-heads-event-inside : goal.bounds-heads-event-inside
bounds-heads-event-inside c =
    let size = count_of head_json c.args.setup.now c.args.heads.now c.requires.heads in
    let first = c.requires.named.0.first in
    let last = c.requires.named.0.last in
    let point = ap (λ (e : Event). e.point) c.event.view_is in
    omega (arith, size, first, last, point)

pub returns : goal.returns
returns c =
    let setup = c.args.setup.now in
    let text = c.args.text.now in
    let event = c.args.event.now in
    let named = c.requires.named in
    let at = head_at head_json setup c.args.heads.now event.point c.index-heads-event.result c.requires.heads named.0.first named.0.last in
    let place = ap (λ (e : Event). get_or c.args.heads.now (e.point - 1) c.index-heads-event.result) c.event.view_is in
    let head = c.as_slice.ensures.value ∙ ap (λ (h : HeadView). h.send) (c.head.view_is ∙ c.index-heads-event.is ∙ place ∙ at) in
    let said = ap (λ (t : List ℕ). t ++ rest_json event) (c.in_ok-word.ensures.ok ∙ ap (λ (h : List ℕ). text ++ h) head) ∙ begun setup text (codes "send") event ((net_for setup).sender event.point) named.1 in
    subst (λ (t : List ℕ). OnOk c.write_rest.result (c.write_rest.new.text ≡ t)) said c.write_rest.ensures
