-- A Send that may come is told, one above the role's clock.
use Rattle.std.proofs.Common.{rules, ◌+◌, ◌∙◌, sym, ap, subst, arith}
use Rattle.rcv_tree.specs.declared.event.Event.{Event}
use Rattle.rcv_tree.specs.declared.entry.Entry.TheVariants.{Send}
use Rattle.rcv_told.specs.Told.{IsSend}
use Rattle.rcv_guide.specs.Guide.{net_for, stand, with_event, IsAfter}
use Rattle.rcv_guide.proofs.Telling.{sent_same, is_send}
use Rattle.rcv_guide.proofs.guide.Guide.tell_sent.Goals as goal

pub clock-stamp-requires : goal.clock-stamp-requires
clock-stamp-requires c = c.in_ok-may_send.ensures.declared

pub overflow_add-stamp : goal.overflow_add-stamp
overflow_add-stamp c = let few = c.clock-stamp.ensures.few in omega (arith, few)

pub add_send-requires-clause-room : goal.add_send-requires-clause-room
add_send-requires-clause-room c = c.in_ok-may_send.ensures.ok.able.room

pub add_send-requires-clause-may : goal.add_send-requires-clause-may
add_send-requires-clause-may c =
    subst (λ (e : Event). IsSend (net_for c.args.self.now) (stand c.args.self.now e.role) e) (sym c.send.ensures)
    (is_send c.args.self.now c.args.news.now _ (c.clock-stamp.result + 1) c.in_ok-may_send.ensures.ok (ap (λ n. n + 1) c.clock-stamp.ensures.value))

pub returns-clause-stamp : goal.returns-clause-stamp
returns-clause-stamp c = (ap (λ n. n + 1) c.clock-stamp.ensures.value)

pub returns-clause-ok : goal.returns-clause-ok
returns-clause-ok c =
    c.add_send.ensures.value
    ∙ ap (with_event c.args.self.now) (c.send.ensures ∙ sent_same c.args.self.now c.args.news.now _ (c.clock-stamp.result + 1) (search rules) (ap (λ n. n + 1) c.clock-stamp.ensures.value))

pub returns-clause-after : goal.returns-clause-after
returns-clause-after c =
    subst (λ (e : Event). IsAfter c.args.self.now c.add_send.new.self (Send e))
    (c.send.ensures ∙ sent_same c.args.self.now c.args.news.now _ (c.clock-stamp.result + 1) (search rules) (ap (λ n. n + 1) c.clock-stamp.ensures.value)) c.add_send.ensures.after
