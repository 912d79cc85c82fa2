use Rattle.std.proofs.Common.{◌≡◌, ◌++◌, ◌*◌, List, map}
use Rattle.std.specs.List.{All, range_with_len}
use Rattle.rcv_costs.specs.declared.numbers.Cost.{Cost}
use Rattle.rcv_costs.specs.Rehearsal.{DiffersInCrashes}
use Rattle.rcv_costs.specs.Costs.{at, IsCostOfRole}
use Rattle.rcv_costs.proofs.crashes.add_costs.Given as goal

abbrev pub invariant-loop-sample : goal.invariant-loop-sample
invariant-loop-sample l = record {
  differs : DiffersInCrashes l.initial.setup l.setup;
  added : List Cost;
  is : l.list.items ≡ l.initial.list.items ++ added;
  counts : map at added ≡ map (λ k. record { role = l.role; count = k * l.step }) (range_with_len 0 l.sample);
  each : All (IsCostOfRole l.initial.setup l.role l.points) added;
}
