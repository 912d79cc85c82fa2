-- A clock counts at most what was told.
use Rattle.std.proofs.Common.{◌<◌, get_or, sym, ◌∙◌, ap, subst, arith}
use Rattle.rcv_guide.specs.declared.numbers.Numbers.{Numbers}
use Rattle.rcv_guide.specs.Guide.{GuideView, roles_of}
use Rattle.rcv_guide.proofs.Guides.{own_at}
use Rattle.rcv_guide.proofs.guide.Guide.clock.Goals as goal

pub returns-clause-few : goal.returns-clause-few
returns-clause-few c =
    let own = ap (λ (x : Numbers). x.clock) (own_at c.self.invariant c.args.role (subst (λ (g : GuideView). c.args.role < roles_of g) (sym c.self.view_is) c.requires) c.index.result.now (c.index.ensures ∙ ap (λ q. get_or c.self.inside.numbers.items q c.index.result.now) c.role.view_is)) in
    let few = (c.self.invariant.few c.args.role (subst (λ (g : GuideView). c.args.role < roles_of g) (sym c.self.view_is) c.requires)).clocks in
    let told = c.self.invariant.told in
    omega (arith, own, few, told)
