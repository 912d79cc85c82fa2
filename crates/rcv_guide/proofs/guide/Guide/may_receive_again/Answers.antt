-- It is the receiver of its next point, and the message is in front.
use Rattle.std.proofs.Common.{◌≡◌, ◌<◌, ◌≤◌, sym, ◌∙◌, ap, subst, arith}
use Rattle.std.proofs.lemmas.Bool.Decides.{nat_tests}
use Rattle.rcv_model.specs.Net.{Net}
use Rattle.rcv_model.specs.Text.{body_of}
use Rattle.rcv_points.proofs.Whole.{same_net}
use Rattle.rcv_guide.specs.Guide.{GuideView, net_for, IsNextOf}
use Rattle.rcv_guide.proofs.Guides.{next_in}
use Rattle.rcv_guide.proofs.guide.Guide.may_receive_again.Goals as goal

pub receiver-requires-clause-first : goal.receiver-requires-clause-first
receiver-requires-clause-first c = (next_in c.self.invariant c.args.event.now.role c.args.event.now.point (subst (λ (g : GuideView). IsNextOf g c.args.event.now.role c.args.event.now.point) (sym c.self.view_is) c.requires.next)).0

pub receiver-requires-clause-last : goal.receiver-requires-clause-last
receiver-requires-clause-last c = subst (λ (n : Net). c.args.event.now.point ≤ n.count) (sym (same_net (body_of c.self.inside.accepted.protocol.body) _ c.points.result.now c.self.invariant.protocol.form c.points.ensures)) (next_in c.self.invariant c.args.event.now.role c.args.event.now.point (subst (λ (g : GuideView). IsNextOf g c.args.event.now.role c.args.event.now.point) (sym c.self.view_is) c.requires.next)).1

pub returns-then-ne : goal.returns-then-ne
returns-then-ne c =
    let ends : c.receiver.result ≡ (net_for c.args.self.now).receiver c.args.event.now.point = c.receiver.ensures ∙ ap (λ (n : Net). n.receiver c.args.event.now.point) (same_net (body_of c.self.inside.accepted.protocol.body) _ c.points.result.now c.self.invariant.protocol.form c.points.ensures) ∙ ap (λ (g : GuideView). (net_for g).receiver c.args.event.now.point) c.self.view_is in (
      (λ t. absurd (cc)),
      λ turn. absurd (let e : c.receiver.result ≡ c.args.event.now.role = ends ∙ turn.0.end_is in let f = c.if-ne.true in let g = c.ne.ensures in grind (arith, nat_tests)),
    )

pub returns : goal.returns
returns c =
    let ends : c.receiver.result ≡ (net_for c.args.self.now).receiver c.args.event.now.point = c.receiver.ensures ∙ ap (λ (n : Net). n.receiver c.args.event.now.point) (same_net (body_of c.self.inside.accepted.protocol.body) _ c.points.result.now c.self.invariant.protocol.form c.points.ensures) ∙ ap (λ (g : GuideView). (net_for g).receiver c.args.event.now.point) c.self.view_is in
    let same : c.receiver.result ≡ c.args.event.now.role = (let f = c.if-ne.false in let g = c.ne.ensures in grind (arith, nat_tests)) in
    let later : c.args.event.now.sent < c.args.event.now.stamp = (let f = c.if-event.false in grind (arith, nat_tests)) in (
      (λ t. (record { next = c.requires.next; end_is = sym ends ∙ same }, c.is_in_front.ensures.0 t, later)),
      λ turn. c.is_in_front.ensures.1 turn.1,
    )
