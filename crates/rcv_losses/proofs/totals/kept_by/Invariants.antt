use Rattle.std.proofs.Common.{◌≡◌, ◌+◌, ◌-◌, ◌^◌, ◌≤◌, drop}
use Rattle.std.specs.Prelude.{min}
use Rattle.std.specs.List.{sum_by}
use Rattle.rcv_losses.specs.Totals.{costs_by, kept_in_all}
use Rattle.rcv_losses.proofs.totals.kept_by.Given as goal

abbrev pub invariant-loop-cost : goal.invariant-loop-cost
invariant-loop-cost l = record {
  sum : min (l.kept + sum_by (λ cost. cost.kept) (costs_by l.role (drop l.cost-index l.costs))) (2 ^ 64 - 1) ≡ kept_in_all (costs_by l.role l.costs);
  most : l.kept ≤ 2 ^ 64 - 1;
}
