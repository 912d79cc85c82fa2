-- The seeds are among the log's events, which are few.
use Rattle.std.proofs.Common.{◌<◌, get_or, sym, ◌∙◌, ap, subst, arith}
use Rattle.rcv_guide.specs.declared.numbers.Numbers.{Numbers}
use Rattle.rcv_guide.specs.Guide.{GuideView, roles_of}
use Rattle.rcv_guide.proofs.Guides.{own_at, few_log}
use Rattle.rcv_guide.proofs.guide.Guide.seeds_of.Goals as goal

pub returns-clause-few : goal.returns-clause-few
returns-clause-few c =
    let declared = subst (λ (g : GuideView). c.args.role < roles_of g) (sym c.self.view_is) c.requires in
    let own = ap (λ (x : Numbers). x.seeds) (own_at c.self.invariant c.args.role declared c.index.result.now (c.index.ensures ∙ ap (λ q. get_or c.self.inside.numbers.items q c.index.result.now) c.role.view_is)) in
    let held = c.self.invariant.sound.seeds c.args.role declared in
    let few = few_log c.self.invariant c.args.role in
    omega (arith, own, held, few)
