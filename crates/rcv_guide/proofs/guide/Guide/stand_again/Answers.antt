-- Nothing is remembered of the role.
use Rattle.std.proofs.Common.{◌≡◌, true, sym, subst}
use Rattle.std.specs.Prelude.{slice_set}
use Rattle.rcv_guide.specs.Guide.{GuideView, guide_of, IsGuide}
use Rattle.rcv_guide.specs.Restoring.{MayStand, numbers_of}
use Rattle.rcv_guide.proofs.Renumbering.{guide_standing}
use Rattle.rcv_guide.proofs.guide.Guide.stand_again.Goals as goal

pub invariant_of-self : goal.invariant_of-self
invariant_of-self c =
    let yes : c.may_stand.result ≡ true = (let f = c.if-not-may_stand.false in cc) in
    let may = subst (λ (g : GuideView). MayStand g c.args.role c.args.standing.now) (sym c.self.view_is) (c.may_stand.ensures.0 yes) in
    subst (λ q. IsGuide (guide_of c.self.inside.accepted.protocol c.self.inside.plan c.self.inside.ledger (slice_set c.self.inside.numbers.items q (numbers_of c.args.standing.now)) c.self.inside.room c.self.inside.told) c.self.inside.table c.self.inside.ledger)
    (sym c.role.view_is)
    (guide_standing c.self.invariant c.args.role c.args.standing.now may)
