-- The accepted protocol knows the next points of each place.
use Rattle.std.proofs.Common.{◌<◌, sym, subst}
use Rattle.rcv_model.specs.Next.{AreNext, IsPlaceOf}
use Rattle.rcv_guide.specs.Guide.{GuideView, guide_of, net_for, roles_of, stand}
use Rattle.rcv_guide.proofs.guide.Guide.next.Goals as goal

pub next-requires-clause-role : goal.next-requires-clause-role
next-requires-clause-role c = subst (λ (g : GuideView). c.args.role < roles_of g) (sym c.self.view_is) c.requires

pub next-requires-clause-place : goal.next-requires-clause-place
next-requires-clause-place c = subst (λ (g : GuideView). IsPlaceOf (net_for g) c.args.role c.place.result) (sym c.self.view_is) c.place.ensures.own

pub returns : goal.returns
returns c =
    subst (λ (g : GuideView). AreNext (net_for g) c.args.role (stand c.args.self.now c.args.role).place c.next.result.now) c.self.view_is
    (subst (λ k. AreNext (net_for (guide_of c.self.inside.accepted.protocol c.self.inside.plan c.self.inside.ledger c.self.inside.numbers.items c.self.inside.room c.self.inside.told)) c.args.role k c.next.result.now) c.place.ensures.value c.next.ensures)
