-- The role is up.
use Rattle.std.proofs.Common.{◌≡◌, false, Some, ◌∙◌, ap, subst}
use Rattle.rcv_guided.specs.Session.{SessionView}
use Rattle.rcv_guided.specs.Hearing.{IsUp}
use Rattle.rcv_guided.specs.Questions.{IsOver}
use Rattle.rcv_guided.proofs.session.GuidedSession.state.Goals as goal

pub returns-then-is_over : goal.returns-then-is_over
returns-then-is_over c =
    let up : c.is_down.result ≡ false = (let f = c.if-is_down.false in cc) in (
      subst (λ (s : SessionView). IsUp s c.args.role) c.self.view_is (c.is_down.ensures ∙ ap Some up),
      subst (λ (s : SessionView). IsOver s c.args.role) c.self.view_is (c.is_over.ensures.0 c.if-is_over.true),
    )

pub returns-else-is_over : goal.returns-else-is_over
returns-else-is_over c =
    let up : c.is_down.result ≡ false = (let f = c.if-is_down.false in cc) in (
      subst (λ (s : SessionView). IsUp s c.args.role) c.self.view_is (c.is_down.ensures ∙ ap Some up),
      subst (λ (s : SessionView). IsOver s c.args.role → ⊥) c.self.view_is (λ over. (let t = c.is_over.ensures.1 over in let f = c.if-is_over.false in cc)),
    )
