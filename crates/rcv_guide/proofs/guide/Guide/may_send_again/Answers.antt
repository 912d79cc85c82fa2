-- It is the sender of its next point.
use Rattle.std.proofs.Common.{◌≡◌, ◌≤◌, sym, ◌∙◌, ap, subst, eq-eqb, arith}
use Rattle.std.proofs.lemmas.Bool.Decides.{nat_tests}
use Rattle.rcv_model.specs.Net.{Net}
use Rattle.rcv_model.specs.Text.{body_of}
use Rattle.rcv_points.proofs.Whole.{same_net}
use Rattle.rcv_guide.specs.Guide.{GuideView, net_for, IsNextOf}
use Rattle.rcv_guide.proofs.Guides.{next_in}
use Rattle.rcv_guide.proofs.guide.Guide.may_send_again.Goals as goal

pub sender-requires-clause-first : goal.sender-requires-clause-first
sender-requires-clause-first c = (next_in c.self.invariant c.args.event.now.role c.args.event.now.point (subst (λ (g : GuideView). IsNextOf g c.args.event.now.role c.args.event.now.point) (sym c.self.view_is) c.requires)).0

pub sender-requires-clause-last : goal.sender-requires-clause-last
sender-requires-clause-last c = subst (λ (n : Net). c.args.event.now.point ≤ n.count) (sym (same_net (body_of c.self.inside.accepted.protocol.body) _ c.points.result.now c.self.invariant.protocol.form c.points.ensures)) (next_in c.self.invariant c.args.event.now.role c.args.event.now.point (subst (λ (g : GuideView). IsNextOf g c.args.event.now.role c.args.event.now.point) (sym c.self.view_is) c.requires)).1

pub returns-then-eq : goal.returns-then-eq
returns-then-eq c =
    let ends : c.sender.result ≡ (net_for c.args.self.now).sender c.args.event.now.point = c.sender.ensures ∙ ap (λ (n : Net). n.sender c.args.event.now.point) (same_net (body_of c.self.inside.accepted.protocol.body) _ c.points.result.now c.self.invariant.protocol.form c.points.ensures) ∙ ap (λ (g : GuideView). (net_for g).sender c.args.event.now.point) c.self.view_is in
    let same : c.sender.result ≡ c.args.event.now.role = (let f = c.if-eq.true in let g = c.eq.ensures in grind (arith, nat_tests)) in (
      (λ t. (record { next = c.requires; end_is = sym ends ∙ same }, (let f = t in grind (arith, nat_tests)))),
      λ turn. eq-eqb c.args.event.now.sent c.args.event.now.stamp turn.1,
    )

pub returns-else-eq : goal.returns-else-eq
returns-else-eq c =
    let ends : c.sender.result ≡ (net_for c.args.self.now).sender c.args.event.now.point = c.sender.ensures ∙ ap (λ (n : Net). n.sender c.args.event.now.point) (same_net (body_of c.self.inside.accepted.protocol.body) _ c.points.result.now c.self.invariant.protocol.form c.points.ensures) ∙ ap (λ (g : GuideView). (net_for g).sender c.args.event.now.point) c.self.view_is in (
      (λ t. absurd (let f = c.if-eq.false in cc)),
      λ turn. c.eq.ensures ∙ eq-eqb c.sender.result c.args.event.now.role (ends ∙ turn.0.end_is),
    )
