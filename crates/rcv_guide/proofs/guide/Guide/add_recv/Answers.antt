-- A Recv that may come keeps the guide, whose room is reserved.
use Rattle.std.proofs.Common.{◌+◌, ◌<◌, ◌≤◌, [], ◌∷◌, length, length-append, sym, ◌∙◌, ap, subst, arith}
use Rattle.rcv_tree.specs.declared.entry.Entry.TheVariants.{Recv}
use Rattle.rcv_model.specs.Net.{Net}
use Rattle.rcv_model.specs.Text.{body_of}
use Rattle.rcv_points.proofs.Whole.{same_net}
use Rattle.rcv_ledger.specs.Ledger.{LedgerView}
use Rattle.rcv_ledger.proofs.Lists.{of_ok}
use Rattle.rcv_told.specs.Told.{IsRecv}
use Rattle.rcv_guide.specs.Guide.{GuideView, guide_of, net_for, stand, with_event, HasRoom, IsAfter, IsGuide}
use Rattle.rcv_guide.proofs.Memories.{not_err}
use Rattle.rcv_guide.proofs.Guides.{many_logs}
use Rattle.rcv_guide.proofs.Reserved.{few_entries, few_held, no_change, event_fits}
use Rattle.rcv_guide.proofs.Telling.{more_view, few_raw, receiver_declared, received_in, sender_low, received_after, received_guide, waits}
use Rattle.rcv_guide.proofs.guide.Guide.add_recv.Goals as goal

pub sender-sender-requires-clause-first : goal.sender-sender-requires-clause-first
sender-sender-requires-clause-first c = (received_in c.self.invariant (subst (λ (g : GuideView). HasRoom g) (sym c.self.view_is) c.requires.room) c.args.event.now (subst (λ (g : GuideView). IsRecv (net_for g) (stand g c.args.event.now.role) c.args.event.now) (sym c.self.view_is) c.requires.may)).0

pub sender-sender-requires-clause-last : goal.sender-sender-requires-clause-last
sender-sender-requires-clause-last c = subst (λ (n : Net). c.args.event.now.point ≤ n.count) (sym (same_net (body_of c.self.inside.accepted.protocol.body) _ c.points.result.now c.self.invariant.protocol.form c.points.ensures)) (received_in c.self.invariant (subst (λ (g : GuideView). HasRoom g) (sym c.self.view_is) c.requires.room) c.args.event.now (subst (λ (g : GuideView). IsRecv (net_for g) (stand g c.args.event.now.role) c.args.event.now) (sym c.self.view_is) c.requires.may)).1

pub add_recv-added-requires-clause-role : goal.add_recv-added-requires-clause-role
add_recv-added-requires-clause-role c = let a = many_logs c.self.invariant in let b = receiver_declared c.self.invariant (subst (λ (g : GuideView). HasRoom g) (sym c.self.view_is) c.requires.room) c.args.event.now (subst (λ (g : GuideView). IsRecv (net_for g) (stand g c.args.event.now.role) c.args.event.now) (sym c.self.view_is) c.requires.may) in omega (arith, a, b)

pub add_recv-added-requires-clause-sender : goal.add_recv-added-requires-clause-sender
add_recv-added-requires-clause-sender c = subst (λ q. q < 8) (sym (c.sender-sender.ensures ∙ ap (λ (n : Net). n.sender c.args.event.now.point) (same_net (body_of c.self.inside.accepted.protocol.body) _ c.points.result.now c.self.invariant.protocol.form c.points.ensures))) (sender_low c.self.invariant (subst (λ (g : GuideView). HasRoom g) (sym c.self.view_is) c.requires.room) c.args.event.now (subst (λ (g : GuideView). IsRecv (net_for g) (stand g c.args.event.now.role) c.args.event.now) (sym c.self.view_is) c.requires.may))

pub add_recv-added-requires-clause-change : goal.add_recv-added-requires-clause-change
add_recv-added-requires-clause-change c = no_change c.self.invariant (subst (λ (g : GuideView). HasRoom g) (sym c.self.view_is) c.requires.room).0 c.args.event.now.role (receiver_declared c.self.invariant (subst (λ (g : GuideView). HasRoom g) (sym c.self.view_is) c.requires.room) c.args.event.now (subst (λ (g : GuideView). IsRecv (net_for g) (stand g c.args.event.now.role) c.args.event.now) (sym c.self.view_is) c.requires.may))

pub add_recv-added-requires-clause-waits : goal.add_recv-added-requires-clause-waits
add_recv-added-requires-clause-waits c = waits c.self.invariant (subst (λ (g : GuideView). HasRoom g) (sym c.self.view_is) c.requires.room) c.args.event.now (subst (λ (g : GuideView). IsRecv (net_for g) (stand g c.args.event.now.role) c.args.event.now) (sym c.self.view_is) c.requires.may) c.sender-sender.result (c.sender-sender.ensures ∙ ap (λ (n : Net). n.sender c.args.event.now.point) (same_net (body_of c.self.inside.accepted.protocol.body) _ c.points.result.now c.self.invariant.protocol.form c.points.ensures))

pub add_recv-added-requires-clause-few : goal.add_recv-added-requires-clause-few
add_recv-added-requires-clause-few c = few_held c.self.invariant (subst (λ (g : GuideView). HasRoom g) (sym c.self.view_is) c.requires.room).0 c.args.event.now.role (receiver_declared c.self.invariant (subst (λ (g : GuideView). HasRoom g) (sym c.self.view_is) c.requires.room) c.args.event.now (subst (λ (g : GuideView). IsRecv (net_for g) (stand g c.args.event.now.role) c.args.event.now) (sym c.self.view_is) c.requires.may))

pub add_recv-added-requires-clause-few_entries : goal.add_recv-added-requires-clause-few_entries
add_recv-added-requires-clause-few_entries c = few_entries c.self.invariant (subst (λ (g : GuideView). HasRoom g) (sym c.self.view_is) c.requires.room).0

pub unreachable-requires : goal.unreachable-requires
unreachable-requires c = not_err c.add_recv-added.result (c.add_recv-added.ensures.room (event_fits c.self.invariant (subst (λ (g : GuideView). HasRoom g) (sym c.self.view_is) c.requires.room).0 c.args.event.now.role (receiver_declared c.self.invariant (subst (λ (g : GuideView). HasRoom g) (sym c.self.view_is) c.requires.room) c.args.event.now (subst (λ (g : GuideView). IsRecv (net_for g) (stand g c.args.event.now.role) c.args.event.now) (sym c.self.view_is) c.requires.may)))) c.if-is_err.ensures.value

pub advance-requires-clause-declared : goal.advance-requires-clause-declared
advance-requires-clause-declared c = let a = c.self.invariant.numbers in let b = receiver_declared c.self.invariant (subst (λ (g : GuideView). HasRoom g) (sym c.self.view_is) c.requires.room) c.args.event.now (subst (λ (g : GuideView). IsRecv (net_for g) (stand g c.args.event.now.role) c.args.event.now) (sym c.self.view_is) c.requires.may) in omega (arith, a, b)

pub advance-requires-clause-few : goal.advance-requires-clause-few
advance-requires-clause-few c = few_raw c.self.invariant (subst (λ (g : GuideView). HasRoom g) (sym c.self.view_is) c.requires.room) c.args.event.now c.args.event.now.role (receiver_declared c.self.invariant (subst (λ (g : GuideView). HasRoom g) (sym c.self.view_is) c.requires.room) c.args.event.now (subst (λ (g : GuideView). IsRecv (net_for g) (stand g c.args.event.now.role) c.args.event.now) (sym c.self.view_is) c.requires.may))

pub invariant_of-self : goal.invariant_of-self
invariant_of-self c = subst (λ (n : GuideView). IsGuide n c.self.inside.table c.add_recv-added.new.self) (sym (more_view c.self.inside.accepted.protocol c.self.inside.plan c.self.inside.ledger c.add_recv-added.new.self c.self.inside.numbers.items c.advance.new.numbers.items c.self.inside.room c.self.inside.told c.args.event.now
    (ap (λ (l : LedgerView). l.logs) (of_ok _ c.add_recv-added.result c.add_recv-added.ensures.ok (sym c.if-is_err.ensures.value))) (ap (λ (l : LedgerView). length l.entries) (of_ok _ c.add_recv-added.result c.add_recv-added.ensures.ok (sym c.if-is_err.ensures.value)) ∙ length-append c.self.inside.ledger.entries (Recv c.args.event.now ∷ [])) c.advance.ensures)) (received_guide c.self.invariant (subst (λ (g : GuideView). HasRoom g) (sym c.self.view_is) c.requires.room) c.args.event.now (subst (λ (g : GuideView). IsRecv (net_for g) (stand g c.args.event.now.role) c.args.event.now) (sym c.self.view_is) c.requires.may) c.sender-sender.result c.add_recv-added.new.self (c.sender-sender.ensures ∙ ap (λ (n : Net). n.sender c.args.event.now.point) (same_net (body_of c.self.inside.accepted.protocol.body) _ c.points.result.now c.self.invariant.protocol.form c.points.ensures)) (of_ok _ c.add_recv-added.result c.add_recv-added.ensures.ok (sym c.if-is_err.ensures.value)))

pub returns-clause-value : goal.returns-clause-value
returns-clause-value c = (more_view c.self.inside.accepted.protocol c.self.inside.plan c.self.inside.ledger c.add_recv-added.new.self c.self.inside.numbers.items c.advance.new.numbers.items c.self.inside.room c.self.inside.told c.args.event.now
    (ap (λ (l : LedgerView). l.logs) (of_ok _ c.add_recv-added.result c.add_recv-added.ensures.ok (sym c.if-is_err.ensures.value))) (ap (λ (l : LedgerView). length l.entries) (of_ok _ c.add_recv-added.result c.add_recv-added.ensures.ok (sym c.if-is_err.ensures.value)) ∙ length-append c.self.inside.ledger.entries (Recv c.args.event.now ∷ [])) c.advance.ensures) ∙ ap (λ (g : GuideView). with_event g c.args.event.now) c.self.view_is

pub returns-clause-after : goal.returns-clause-after
returns-clause-after c =
    subst (λ (g : GuideView). IsAfter g (guide_of c.self.inside.accepted.protocol c.self.inside.plan c.add_recv-added.new.self c.advance.new.numbers.items c.self.inside.room (c.self.inside.told + 1)) (Recv c.args.event.now)) c.self.view_is
    (subst (λ (n : GuideView). IsAfter (guide_of c.self.inside.accepted.protocol c.self.inside.plan c.self.inside.ledger c.self.inside.numbers.items c.self.inside.room c.self.inside.told) n (Recv c.args.event.now)) (sym (more_view c.self.inside.accepted.protocol c.self.inside.plan c.self.inside.ledger c.add_recv-added.new.self c.self.inside.numbers.items c.advance.new.numbers.items c.self.inside.room c.self.inside.told c.args.event.now
    (ap (λ (l : LedgerView). l.logs) (of_ok _ c.add_recv-added.result c.add_recv-added.ensures.ok (sym c.if-is_err.ensures.value))) (ap (λ (l : LedgerView). length l.entries) (of_ok _ c.add_recv-added.result c.add_recv-added.ensures.ok (sym c.if-is_err.ensures.value)) ∙ length-append c.self.inside.ledger.entries (Recv c.args.event.now ∷ [])) c.advance.ensures)) (received_after c.self.invariant (subst (λ (g : GuideView). HasRoom g) (sym c.self.view_is) c.requires.room) c.args.event.now (subst (λ (g : GuideView). IsRecv (net_for g) (stand g c.args.event.now.role) c.args.event.now) (sym c.self.view_is) c.requires.may)))
