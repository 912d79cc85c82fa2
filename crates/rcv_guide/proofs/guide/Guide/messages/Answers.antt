-- The messages behind those that were taken.
use Rattle.std.proofs.Common.{◌<◌, drop, sym, ◌∙◌, ap, subst}
use Rattle.std.specs.List.{All}
use Rattle.std.proofs.lemmas.Result.{IfOk-weaker}
use Rattle.rcv_model.specs.Net.{Net}
use Rattle.rcv_model.specs.Run.{put}
use Rattle.rcv_model.specs.Text.{body_of}
use Rattle.rcv_points.proofs.Whole.{same_net}
use Rattle.rcv_ledger.specs.Logs.{log_at}
use Rattle.rcv_depend.specs.Logs.{AreSound}
use Rattle.rcv_guide.specs.Guide.{GuideView, guide_of, roles_of, in_channel, IsOfText}
use Rattle.rcv_guide.proofs.Guides.{low, carried}
use Rattle.rcv_guide.proofs.Lying.{behind_taken, of_text}
use Rattle.rcv_guide.proofs.guide.Guide.messages.Goals as goal

pub flying-requires-clause-sound : goal.flying-requires-clause-sound
flying-requires-clause-sound c = subst (λ (net : Net). AreSound net c.self.inside.ledger.logs) (sym (same_net (body_of c.self.inside.accepted.protocol.body) _ c.points.result.now c.self.invariant.protocol.form c.points.ensures)) (carried c.self.invariant).sound

pub returns-clause-value : goal.returns-clause-value
returns-clause-value c = IfOk-weaker c.flying.result _ _ (λ all is.
    is
    ∙ ap (λ (net : Net). drop c.counts-taken.result.1 (put net c.args.from c.args.to (log_at c.self.inside.ledger.logs c.args.from))) (same_net (body_of c.self.inside.accepted.protocol.body) _ c.points.result.now c.self.invariant.protocol.form c.points.ensures)
    ∙ behind_taken c.self.invariant c.args.from c.args.to (low c.self.invariant c.args.from (subst (λ (g : GuideView). c.args.from < roles_of g) (sym c.self.view_is) c.requires.from)) (low c.self.invariant c.args.to (subst (λ (g : GuideView). c.args.to < roles_of g) (sym c.self.view_is) c.requires.to)) c.counts-taken.result.1 c.counts-taken.ensures.taken
    ∙ ap (λ (g : GuideView). in_channel g c.args.from c.args.to) c.self.view_is) c.flying.ensures

pub returns-clause-declared : goal.returns-clause-declared
returns-clause-declared c = IfOk-weaker c.flying.result _ _ (λ all is.
    subst (λ (g : GuideView). All (IsOfText g) all.items) c.self.view_is
    (subst (All (IsOfText (guide_of c.self.inside.accepted.protocol c.self.inside.plan c.self.inside.ledger c.self.inside.numbers.items c.self.inside.room c.self.inside.told)))
    (sym (is
    ∙ ap (λ (net : Net). drop c.counts-taken.result.1 (put net c.args.from c.args.to (log_at c.self.inside.ledger.logs c.args.from))) (same_net (body_of c.self.inside.accepted.protocol.body) _ c.points.result.now c.self.invariant.protocol.form c.points.ensures)
    ∙ behind_taken c.self.invariant c.args.from c.args.to (low c.self.invariant c.args.from (subst (λ (g : GuideView). c.args.from < roles_of g) (sym c.self.view_is) c.requires.from)) (low c.self.invariant c.args.to (subst (λ (g : GuideView). c.args.to < roles_of g) (sym c.self.view_is) c.requires.to)) c.counts-taken.result.1 c.counts-taken.ensures.taken))
    (of_text c.self.invariant c.args.from c.args.to (low c.self.invariant c.args.from (subst (λ (g : GuideView). c.args.from < roles_of g) (sym c.self.view_is) c.requires.from)) (low c.self.invariant c.args.to (subst (λ (g : GuideView). c.args.to < roles_of g) (sym c.self.view_is) c.requires.to))))) c.flying.ensures
