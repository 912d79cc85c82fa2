-- The head stands at the place of its point, and names the event's role.
use Rattle.std.proofs.Common.{◌-◌, [], codes, decimal, ◌∙◌, ap, get_or, arith}
use Rattle.rcv_page.proofs.Adding.{then, adds_same}
use Rattle.rcv_tree.specs.declared.event.Event.{Event}
use Rattle.rcv_session.specs.Session.{net_for}
use Rattle.rcv_journal.specs.Heads.{HeadView, line_begun}
use Rattle.rcv_journal.proofs.Heads.{count_of, head_at, begun}
use Rattle.rcv_journal.proofs.entries.write_recv.Goals as goal

pub bounds-heads-event-inside : goal.bounds-heads-event-inside
bounds-heads-event-inside g c =
    let size = count_of line_begun c.args.setup.now c.args.heads.now c.requires.heads in
    let first = c.requires.named.0.first in
    let last = c.requires.named.0.last in
    let point = ap (λ (e : Event). e.point) c.event.view_is in
    omega (arith, size, first, last, point)

pub returns : goal.returns
returns g c =
    let setup = c.args.setup.now in
    let event = c.args.event.now in
    let named = c.requires.named in
    let at = head_at line_begun setup c.args.heads.now event.point c.index-heads-event.result c.requires.heads named.0.first named.0.last in
    let place = ap (λ (e : Event). get_or c.args.heads.now (e.point - 1) c.index-heads-event.result) c.event.view_is in
    let head = c.as_slice.ensures.value ∙ ap (λ (h : HeadView). h.recv) (c.head.view_is ∙ c.index-heads-event.is ∙ place ∙ at) in
    let start = adds_same _ _ _ _ head c.word.ensures in
    let said = begun setup [] (codes "recv ") event ((net_for setup).receiver event.point) named.1 in
    let event_said = adds_same _ _ _ _ said (then start c.write_rest.ensures) in
    let sent = adds_same _ _ _ _ (ap (λ (e : Event). decimal e.sent) c.event.view_is) c.number.ensures in
    then (then (then event_said c.word-2.ensures) sent) c.byte.ensures
