-- The sum is at most the greatest number.
use Rattle.std.proofs.Common.{◌≡◌, ℕ, ◌+◌, ◌-◌, ◌^◌, ◌≤◌, List, sym, ◌∙◌, ap, arith}
use Rattle.std.specs.Prelude.{min}
use Rattle.std.specs.List.{sum_by}
use Rattle.std.proofs.lemmas.List.{drop_all}
use Rattle.rcv_costs.specs.declared.numbers.Cost.{Cost}
use Rattle.rcv_losses.specs.Totals.{costs_by}
use Rattle.rcv_losses.proofs.totals.kept_by.Goals as goal

as_it_is : (kept : ℕ) → kept ≤ 2 ^ 64 - 1 → kept ≡ min (kept + 0) (2 ^ 64 - 1)
as_it_is kept most = omega (arith, most)

pub returns : goal.returns
returns c =
    let done = drop_all c.loop-cost.cost-index c.args.costs.now c.loop-cost-test.false in
    as_it_is c.loop-cost.kept c.loop-cost.invariant.most
    ∙ ap (λ (l : List Cost). min (c.loop-cost.kept + sum_by (λ (cost : Cost). cost.kept) (costs_by c.args.role l)) (2 ^ 64 - 1)) (sym done)
    ∙ c.loop-cost.invariant.sum
