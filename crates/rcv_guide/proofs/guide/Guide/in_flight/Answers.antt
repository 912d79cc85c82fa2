-- What was put on the channel and not taken yet.
use Rattle.std.proofs.Common.{◌<◌, length, sym, ◌∙◌, ap, subst, arith}
use Rattle.rcv_guide.specs.Guide.{GuideView, roles_of, in_channel}
use Rattle.rcv_guide.proofs.Guides.{low}
use Rattle.rcv_guide.proofs.Lying.{ordered, much}
use Rattle.rcv_guide.proofs.guide.Guide.in_flight.Goals as goal

pub counts-put-requires : goal.counts-put-requires
counts-put-requires c = (
  low c.self.invariant c.args.from (subst (λ (g : GuideView). c.args.from < roles_of g) (sym c.self.view_is) c.requires.from),
  low c.self.invariant c.args.to (subst (λ (g : GuideView). c.args.to < roles_of g) (sym c.self.view_is) c.requires.to),
)

pub overflow_sub-result : goal.overflow_sub-result
overflow_sub-result c =
    let from = low c.self.invariant c.args.from (subst (λ (g : GuideView). c.args.from < roles_of g) (sym c.self.view_is) c.requires.from) in
    let to = low c.self.invariant c.args.to (subst (λ (g : GuideView). c.args.to < roles_of g) (sym c.self.view_is) c.requires.to) in
    let o = ordered c.self.invariant c.args.from c.args.to from to c.counts-put.result.0 c.counts-put.result.1 c.counts-put.ensures.put c.counts-put.ensures.taken in
    omega (arith, o)

pub returns : goal.returns
returns c =
    let from = low c.self.invariant c.args.from (subst (λ (g : GuideView). c.args.from < roles_of g) (sym c.self.view_is) c.requires.from) in
    let to = low c.self.invariant c.args.to (subst (λ (g : GuideView). c.args.to < roles_of g) (sym c.self.view_is) c.requires.to) in
    much c.self.invariant c.args.from c.args.to from to c.counts-put.result.0 c.counts-put.result.1 c.counts-put.ensures.put c.counts-put.ensures.taken
    ∙ ap (λ (g : GuideView). length (in_channel g c.args.from c.args.to)) c.self.view_is
