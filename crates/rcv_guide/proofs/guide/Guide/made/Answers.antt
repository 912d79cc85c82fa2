-- How many are forgotten, and how many of the log aren't.
use Rattle.std.proofs.Common.{◌<◌, get_or, sym, ◌∙◌, ap, subst, arith}
use Rattle.rcv_guide.specs.declared.numbers.Numbers.{Numbers}
use Rattle.rcv_guide.specs.Guide.{GuideView, guide_of, roles_of, IsMemory}
use Rattle.rcv_guide.proofs.Guides.{own_at}
use Rattle.rcv_guide.proofs.Memories.{made_at}
use Rattle.rcv_guide.proofs.guide.Guide.made.Goals as goal

pub returns : goal.returns
returns c m is =
    let forgotten = ap (λ (x : Numbers). x.forgotten) (own_at c.self.invariant c.args.role (subst (λ (g : GuideView). c.args.role < roles_of g) (sym c.self.view_is) c.requires) c.index-own.result.now (c.index-own.ensures ∙ ap (λ q. get_or c.self.inside.numbers.items q c.index-own.result.now) c.role.view_is)) in
    let seeds = ap (λ (x : Numbers). x.seeds) (own_at c.self.invariant c.args.role (subst (λ (g : GuideView). c.args.role < roles_of g) (sym c.self.view_is) c.requires) c.index-own.result.now (c.index-own.ensures ∙ ap (λ q. get_or c.self.inside.numbers.items q c.index-own.result.now) c.role.view_is)) in
    let all = made_at (guide_of c.self.inside.accepted.protocol c.self.inside.plan c.self.inside.ledger c.self.inside.numbers.items c.self.inside.room c.self.inside.told) m (subst (λ (g : GuideView). IsMemory g m) (sym c.self.view_is) is) c.args.role (subst (λ (g : GuideView). c.args.role < roles_of g) (sym c.self.view_is) c.requires) in
    let made = c.made.ensures in
    omega (arith, forgotten, seeds, all, made)
