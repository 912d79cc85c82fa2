-- What lies in front of the channel.
use Rattle.std.proofs.Common.{◌<◌, sym, ◌∙◌, ap, subst, IfSome}
use Rattle.std.specs.Prelude.{slice_get}
use Rattle.rcv_guide.specs.Guide.{GuideView, roles_of, in_channel, IsOfText}
use Rattle.rcv_guide.proofs.Guides.{low}
use Rattle.rcv_guide.proofs.Lying.{front_is, front_of_text}
use Rattle.rcv_guide.proofs.guide.Guide.front.Goals as goal

pub returns-clause-value : goal.returns-clause-value
returns-clause-value c =
    front_is c.self.invariant c.args.from c.args.to (low c.self.invariant c.args.from (subst (λ (g : GuideView). c.args.from < roles_of g) (sym c.self.view_is) c.requires.from)) (low c.self.invariant c.args.to (subst (λ (g : GuideView). c.args.to < roles_of g) (sym c.self.view_is) c.requires.to)) c.front.result c.front.ensures
    ∙ ap (λ (g : GuideView). slice_get (in_channel g c.args.from c.args.to) 0) c.self.view_is

pub returns-clause-declared : goal.returns-clause-declared
returns-clause-declared c =
    subst (λ (g : GuideView). IfSome c.front.result (IsOfText g)) c.self.view_is
    (front_of_text c.self.invariant c.args.from c.args.to (low c.self.invariant c.args.from (subst (λ (g : GuideView). c.args.from < roles_of g) (sym c.self.view_is) c.requires.from)) (low c.self.invariant c.args.to (subst (λ (g : GuideView). c.args.to < roles_of g) (sym c.self.view_is) c.requires.to)) c.front.result c.front.ensures)
