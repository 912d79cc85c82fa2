-- A Recv that may come is told, above the role's clock and its message's stamp.
use Rattle.std.proofs.Common.{rules, w64, ◌+◌, ◌∙◌, ap, subst, arith}
use Rattle.std.specs.Prelude.{max}
use mir.Val.{SFits, of_z, to_z}
use Rattle.std.proofs.lemmas.Int.{to_z-of_z}
use Rattle.rcv_tree.specs.declared.event.Event.{Event}
use Rattle.rcv_tree.specs.declared.entry.Entry.TheVariants.{Recv}
use Rattle.rcv_guide.specs.Guide.{with_event, IsAfter}
use Rattle.rcv_guide.proofs.Telling.{received_same, is_recv}
use Rattle.rcv_guide.proofs.guide.Guide.tell_received.Goals as goal

pub clock-requires : goal.clock-requires
clock-requires c = c.in_ok-may_receive.ensures.declared

pub overflow_add-own : goal.overflow_add-own
overflow_add-own c =
    let few = c.clock.ensures.few in
    let sent = c.in_ok-may_receive.ensures.few in
    let most = c.max-own.ensures in
    omega (arith, few, sent, most)

pub add_recv-requires-clause-room : goal.add_recv-requires-clause-room
add_recv-requires-clause-room c = c.in_ok-may_receive.ensures.ok.able.room

pub add_recv-requires-clause-may : goal.add_recv-requires-clause-may
add_recv-requires-clause-may c =
    let fits : SFits w64 c.args.news.now.value = search rules in
    let same = to_z-of_z w64 c.args.news.now.value fits in
    is_recv c.args.self.now c.args.news.now (to_z w64 (of_z w64 c.args.news.now.value)) c.args.stamp (c.max-own.result + 1) same c.in_ok-may_receive.ensures.ok (ap (λ n. n + 1) (c.max-own.ensures ∙ ap (λ n. max n c.args.stamp) c.clock.ensures.value))

pub returns-clause-stamp : goal.returns-clause-stamp
returns-clause-stamp c = (ap (λ n. n + 1) (c.max-own.ensures ∙ ap (λ n. max n c.args.stamp) c.clock.ensures.value))

pub returns-clause-ok : goal.returns-clause-ok
returns-clause-ok c =
    let fits : SFits w64 c.args.news.now.value = search rules in
    let same = to_z-of_z w64 c.args.news.now.value fits in
    c.add_recv.ensures.value ∙ ap (with_event c.args.self.now) (received_same c.args.self.now c.args.news.now (to_z w64 (of_z w64 c.args.news.now.value)) c.args.stamp (c.max-own.result + 1) same (ap (λ n. n + 1) (c.max-own.ensures ∙ ap (λ n. max n c.args.stamp) c.clock.ensures.value)))

pub returns-clause-after : goal.returns-clause-after
returns-clause-after c =
    let fits : SFits w64 c.args.news.now.value = search rules in
    let same = to_z-of_z w64 c.args.news.now.value fits in
    subst (λ (e : Event). IsAfter c.args.self.now c.add_recv.new.self (Recv e)) (received_same c.args.self.now c.args.news.now (to_z w64 (of_z w64 c.args.news.now.value)) c.args.stamp (c.max-own.result + 1) same (ap (λ n. n + 1) (c.max-own.ensures ∙ ap (λ n. max n c.args.stamp) c.clock.ensures.value))) c.add_recv.ensures.after
