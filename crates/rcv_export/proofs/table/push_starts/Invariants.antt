-- The points so far.
use Rattle.std.specs.Prelude.{◌≡◌, ◌++◌, flat_map, map}
use Rattle.std.specs.List.{range_with_len}
use Rattle.serde_json.specs.View.{view}
use Rattle.rcv_accept.specs.Accepted.{net_for}
use Rattle.rcv_export.specs.TableJson.{start_data}
use Rattle.rcv_export.proofs.table.push_starts.Given as goal

abbrev pub invariant-loop-before : goal.invariant-loop-before
invariant-loop-before l =
    map view l.list.items ≡ map view l.initial.list.items ++ flat_map (start_data (net_for l.accepted) l.accepted.protocol.roles l.table l.role) (range_with_len 1 l.before)
