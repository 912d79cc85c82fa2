-- The costs so far.
use Rattle.std.specs.Prelude.{◌≡◌, map, take}
use Rattle.std.specs.List.{All}
use Rattle.serde_json.specs.View.{view}
use Rattle.rcv_costs_json.specs.CostsJson.{failure_data}
use Rattle.rcv_costs_json.specs.Told.{FitsNumbers}
use Rattle.rcv_costs_json.proofs.failure.failures.Given as goal

abbrev pub invariant-loop-cost : goal.invariant-loop-cost
invariant-loop-cost l = record {
  values : map view l.list.items ≡ map (failure_data l.setup) (take l.cost-index l.costs);
  fit : All FitsNumbers (take l.cost-index l.costs);
}
