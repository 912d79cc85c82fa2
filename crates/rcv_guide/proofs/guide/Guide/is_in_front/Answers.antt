-- What lies in front of the channel from the sender.
use Rattle.std.proofs.Common.{◌≡◌, ◌<◌, ◌≤◌, Some, None, length, sym, ◌∙◌, ap, subst}
use Rattle.std.specs.Prelude.{slice_get}
use Rattle.rcv_tree.specs.declared.event.Message.{Message}
use Rattle.rcv_tree.specs.Events.{message_got}
use Rattle.rcv_model.specs.Net.{Net}
use Rattle.rcv_model.specs.Text.{body_of}
use Rattle.rcv_model.proofs.Lists.{some_same}
use Rattle.rcv_points.proofs.Whole.{same_net}
use Rattle.rcv_guide.specs.Guide.{GuideView, net_for, roles_of, in_channel, IsNextOf}
use Rattle.rcv_guide.proofs.Guides.{next_in, sender_in}
use Rattle.rcv_guide.proofs.Again.{first_rest}
use Rattle.rcv_guide.proofs.guide.Guide.is_in_front.Goals as goal

pub sender-sender-requires-clause-first : goal.sender-sender-requires-clause-first
sender-sender-requires-clause-first c = (next_in c.self.invariant c.args.event.now.role c.args.event.now.point (subst (λ (g : GuideView). IsNextOf g c.args.event.now.role c.args.event.now.point) (sym c.self.view_is) c.requires.next)).0

pub sender-sender-requires-clause-last : goal.sender-sender-requires-clause-last
sender-sender-requires-clause-last c = subst (λ (n : Net). c.args.event.now.point ≤ n.count) (sym (same_net (body_of c.self.inside.accepted.protocol.body) _ c.points.result.now c.self.invariant.protocol.form c.points.ensures)) (next_in c.self.invariant c.args.event.now.role c.args.event.now.point (subst (λ (g : GuideView). IsNextOf g c.args.event.now.role c.args.event.now.point) (sym c.self.view_is) c.requires.next)).1

pub front-requires-clause-from : goal.front-requires-clause-from
front-requires-clause-from c =
    let ends = c.sender-sender.ensures ∙ ap (λ (n : Net). n.sender c.args.event.now.point) (same_net (body_of c.self.inside.accepted.protocol.body) _ c.points.result.now c.self.invariant.protocol.form c.points.ensures) in
    subst (λ (g : GuideView). c.sender-sender.result < roles_of g) c.self.view_is
    (subst (λ q. q < length c.self.inside.accepted.protocol.roles) (sym ends) (sender_in c.self.invariant c.args.event.now.point (next_in c.self.invariant c.args.event.now.role c.args.event.now.point (subst (λ (g : GuideView). IsNextOf g c.args.event.now.role c.args.event.now.point) (sym c.self.view_is) c.requires.next))))

pub returns-in_default : goal.returns-in_default
returns-in_default c =
    let ends : c.sender-sender.result ≡ (net_for c.args.self.now).sender c.args.event.now.point = c.sender-sender.ensures ∙ ap (λ (n : Net). n.sender c.args.event.now.point) (same_net (body_of c.self.inside.accepted.protocol.body) _ c.points.result.now c.self.invariant.protocol.form c.points.ensures) ∙ ap (λ (g : GuideView). (net_for g).sender c.args.event.now.point) c.self.view_is in (
      (λ t. absurd (cc)),
      λ front. absurd (let e : None ≡ Some (message_got c.args.event.now) = c.in_default.ensures.value ∙ ap (λ q. slice_get (in_channel c.args.self.now q c.args.event.now.role) 0) ends ∙ ap (λ l. slice_get l 0) front.1 in cc),
    )

pub returns : goal.returns
returns c =
    let ends : c.sender-sender.result ≡ (net_for c.args.self.now).sender c.args.event.now.point = c.sender-sender.ensures ∙ ap (λ (n : Net). n.sender c.args.event.now.point) (same_net (body_of c.self.inside.accepted.protocol.body) _ c.points.result.now c.self.invariant.protocol.form c.points.ensures) ∙ ap (λ (g : GuideView). (net_for g).sender c.args.event.now.point) c.self.view_is in
    let there : slice_get (in_channel c.args.self.now ((net_for c.args.self.now).sender c.args.event.now.point) c.args.event.now.role) 0 ≡ Some c.in-Some.front = sym (c.in-Some.ensures.value ∙ ap (λ q. slice_get (in_channel c.args.self.now q c.args.event.now.role) 0) ends) in (
      (λ t. first_rest (in_channel c.args.self.now ((net_for c.args.self.now).sender c.args.event.now.point) c.args.event.now.role) (message_got c.args.event.now) (there ∙ ap (λ (m : Message). Some m) (c.is_taken.ensures.0 t))),
      λ front. c.is_taken.ensures.1 (some_same (sym there ∙ ap (λ l. slice_get l 0) front.1)),
    )
