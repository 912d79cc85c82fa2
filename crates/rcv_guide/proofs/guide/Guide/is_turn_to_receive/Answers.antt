-- The point is one of the role's next points, and one where it receives.
use Rattle.std.proofs.Common.{◌≡◌, ◌≤◌, sym, ◌∙◌, ap, subst, eq-eqb, arith}
use Rattle.std.proofs.lemmas.Bool.Decides.{nat_tests}
use Rattle.rcv_model.specs.Net.{Net}
use Rattle.rcv_model.specs.Text.{body_of}
use Rattle.rcv_points.proofs.Whole.{same_net}
use Rattle.rcv_guide.specs.Guide.{GuideView, net_for, IsNextOf}
use Rattle.rcv_guide.proofs.Guides.{next_in}
use Rattle.rcv_guide.proofs.guide.Guide.is_turn_to_receive.Goals as goal

pub receiver-requires-clause-first : goal.receiver-requires-clause-first
receiver-requires-clause-first c = (next_in c.self.invariant c.args.news.now.role c.args.news.now.point (subst (λ (g : GuideView). IsNextOf g c.args.news.now.role c.args.news.now.point) (sym c.self.view_is) (c.is_next.ensures.0 c.if-is_next.true))).0

pub receiver-requires-clause-last : goal.receiver-requires-clause-last
receiver-requires-clause-last c = subst (λ (n : Net). c.args.news.now.point ≤ n.count) (sym (same_net (body_of c.self.inside.accepted.protocol.body) _ c.points.result.now c.self.invariant.protocol.form c.points.ensures)) (next_in c.self.invariant c.args.news.now.role c.args.news.now.point (subst (λ (g : GuideView). IsNextOf g c.args.news.now.role c.args.news.now.point) (sym c.self.view_is) (c.is_next.ensures.0 c.if-is_next.true))).1

pub returns-then-is_next : goal.returns-then-is_next
returns-then-is_next c = (
  (λ t.
      let same : c.receiver.result ≡ c.args.news.now.role = (let g = c.eq.ensures in let u = t in grind (arith, nat_tests)) in
      (c.is_next.ensures.0 c.if-is_next.true, sym (c.receiver.ensures ∙ ap (λ (n : Net). n.receiver c.args.news.now.point) (same_net (body_of c.self.inside.accepted.protocol.body) _ c.points.result.now c.self.invariant.protocol.form c.points.ensures) ∙ ap (λ (g : GuideView). (net_for g).receiver c.args.news.now.point) c.self.view_is) ∙ same)),
  λ turn. c.eq.ensures ∙ eq-eqb c.receiver.result c.args.news.now.role ((c.receiver.ensures ∙ ap (λ (n : Net). n.receiver c.args.news.now.point) (same_net (body_of c.self.inside.accepted.protocol.body) _ c.points.result.now c.self.invariant.protocol.form c.points.ensures) ∙ ap (λ (g : GuideView). (net_for g).receiver c.args.news.now.point) c.self.view_is) ∙ turn.1),
)
