use Rattle.std.proofs.Common.{◌≡◌, ◌≤◌, ◌*◌, ℕ, length, map}
use Rattle.std.specs.List.{All}
use Rattle.rcv_costs.specs.Rehearsal.{DiffersInCrashes}
use Rattle.rcv_costs.specs.Sampling.{of_role, counts_in}
use Rattle.rcv_costs.specs.Costs.{at}
use Rattle.rcv_costs.proofs.Adding.{IsCostBelow}
use Rattle.rcv_costs.proofs.crashes.costs_of.Given as goal

abbrev pub invariant-loop-role : goal.invariant-loop-role
invariant-loop-role l = record {
  differs : DiffersInCrashes l.fn.setup l.setup;
  counts : map at l.list.items ≡ counts_in l.role (λ (r : ℕ). length (of_role l.points.items r)) l.step;
  each : All (IsCostBelow l.fn.setup l.points.items l.role) l.list.items;
  few : length l.list.items ≤ l.role * 100001;
}
