-- An event that may come again fits.
use Rattle.std.proofs.Common.{◌≡◌, true, sym, subst}
use Rattle.rcv_guide.specs.Numbers.{numbers_at}
use Rattle.rcv_guide.specs.Guide.{GuideView}
use Rattle.rcv_guide.specs.Restoring.{MayBeAgain, FitsEvent}
use Rattle.rcv_guide.proofs.Again.{again_fits}
use Rattle.rcv_guide.proofs.guide.Guide.add_again.Goals as goal

pub log-requires : goal.log-requires
log-requires c =
    let yes : c.may_be_again.result ≡ true = (let f = c.if-not-may_be_again.false in cc) in
    let may = subst (λ (g : GuideView). MayBeAgain g c.args.event.now) (sym c.self.view_is) (c.may_be_again.ensures.0 yes) in
    subst (FitsEvent c.args.self.now c.args.event.now) (sym c.seeds_of-seeds.ensures.value)
    (subst (λ (g : GuideView). FitsEvent g c.args.event.now (numbers_at g.numbers c.args.event.now.role).seeds) c.self.view_is (again_fits c.self.invariant c.args.event.now may))
