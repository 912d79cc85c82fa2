-- A place of the text is one of the role's where its point is.
use Rattle.std.proofs.Common.{◌≡◌, true, sym, ◌∙◌, ap, subst, inr, ⊎_elim, arith}
use Rattle.rcv_model.specs.Net.{Net}
use Rattle.rcv_model.specs.Next.{IsOf}
use Rattle.rcv_model.specs.Text.{body_of}
use Rattle.rcv_points.specs.Follow.{net_in}
use Rattle.rcv_points.proofs.Whole.{same_net}
use Rattle.rcv_guide.specs.Guide.{GuideView, net_for}
use Rattle.rcv_guide.proofs.guide.Guide.is_place.Goals as goal

pub returns : goal.returns
returns c =
    let to : net_in c.points.result.now ≡ net_for c.args.self.now = same_net (body_of c.self.inside.accepted.protocol.body) _ c.points.result.now c.self.invariant.protocol.form c.points.ensures ∙ ap (λ (g : GuideView). net_for g) c.self.view_is in
    let yes : c.is_of_text.result ≡ true = (let f = c.if-not-is_of_text.false in cc) in
    let text = c.is_of_text.ensures.0 yes in (
      (λ t. inr (text.0, text.1, subst (λ (n : Net). IsOf n c.args.role c.args.place) to (c.is_of.ensures.0 t))),
      λ place. ⊎_elim
          (λ start. absurd (omega (arith, start, c.if-place-eq0.false)))
          (λ own. c.is_of.ensures.1 (subst (λ (n : Net). IsOf n c.args.role c.args.place) (sym to) own.2))
          place,
    )
