use Rattle.std.proofs.Common.{◌≡◌, ◌≤◌, ◌+◌, ◌*◌, ◌^◌, drop}
use Rattle.rcv_losses.specs.Totals.{costs_by, undone_in_all}
use Rattle.rcv_losses.proofs.totals.undone_by.Given as goal

abbrev pub invariant-loop-cost : goal.invariant-loop-cost
invariant-loop-cost l = record {
  sum : l.undone + undone_in_all (costs_by l.role (drop l.cost-index l.costs)) ≡ undone_in_all (costs_by l.role l.costs);
  few : l.undone ≤ l.cost-index * 2 ^ 32;
}
