-- The roles so far.
use Rattle.std.specs.Prelude.{◌≡◌, map}
use Rattle.std.specs.List.{range_with_len}
use Rattle.serde_json.specs.View.{view}
use Rattle.rcv_costs_json.specs.CostsJson.{total_data}
use Rattle.rcv_costs_json.proofs.totals.totals.Given as goal

abbrev pub invariant-loop-role : goal.invariant-loop-role
invariant-loop-role l = map view l.list.items ≡ map (total_data l.setup l.costs) (range_with_len 0 l.role)
