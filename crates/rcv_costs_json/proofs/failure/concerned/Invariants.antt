-- The roles so far.
use Rattle.std.specs.Prelude.{◌≡◌, flat_map, map}
use Rattle.std.specs.List.{range_with_len}
use Rattle.serde_json.specs.View.{view}
use Rattle.rcv_costs_json.specs.CostsJson.{concerned_data}
use Rattle.rcv_costs_json.proofs.failure.concerned.Given as goal

abbrev pub invariant-loop-role : goal.invariant-loop-role
invariant-loop-role l = map view l.list.items ≡ flat_map (concerned_data l.setup l.concerned.0) (range_with_len 0 l.role)
