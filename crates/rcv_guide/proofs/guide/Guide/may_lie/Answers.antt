-- The log has seeds alone, and the role is the sender.
use Rattle.std.proofs.Common.{◌≡◌, length, true, sym, ◌∙◌, ap, eq-eqb, arith}
use Rattle.std.proofs.lemmas.Bool.Decides.{nat_tests}
use Rattle.rcv_model.specs.Net.{Net}
use Rattle.rcv_model.specs.Text.{body_of}
use Rattle.rcv_points.proofs.Whole.{same_net}
use Rattle.rcv_ledger.specs.Logs.{log_at}
use Rattle.rcv_guide.specs.Guide.{GuideView, net_for}
use Rattle.rcv_guide.proofs.guide.Guide.may_lie.Goals as goal

pub returns : goal.returns
returns c =
    let ends : c.sender.result ≡ (net_for c.args.self.now).sender c.args.message.now.point = c.sender.ensures ∙ ap (λ (n : Net). n.sender c.args.message.now.point) (same_net (body_of c.self.inside.accepted.protocol.body) _ c.points.result.now c.self.invariant.protocol.form c.points.ensures) ∙ ap (λ (g : GuideView). (net_for g).sender c.args.message.now.point) c.self.view_is in
    let size : c.made.result ≡ length (log_at c.args.self.now.logs c.args.role) = c.made.ensures ∙ ap (λ (g : GuideView). length (log_at g.logs c.args.role)) c.self.view_is in
    let even : c.made.result ≡ c.seeds_of.result = omega (arith, c.if-made-seeds_of.false) in
    let fits : c.fits_log.result ≡ true = (let f = c.if-not-fits_log.false in cc) in
    let text : c.is_of_text.result ≡ true = (let f = c.if-not-is_of_text.false in cc) in (
      (λ t.
          let same : c.sender.result ≡ c.args.role = (let f = t in let g = c.eq.ensures in grind (arith, nat_tests)) in
          record {
            log = c.fits_log.ensures.0 fits;
            only = sym size ∙ even ∙ c.seeds_of.ensures.value;
            text = c.is_of_text.ensures.0 text;
            sender = sym ends ∙ same;
          }),
      λ may. c.eq.ensures ∙ eq-eqb c.sender.result c.args.role (ends ∙ may.sender),
    )
