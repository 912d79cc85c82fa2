-- The roles so far.
use Rattle.std.specs.Prelude.{◌≡◌, flat_map, map}
use Rattle.std.specs.List.{range_with_len}
use Rattle.serde_json.specs.View.{view}
use Rattle.rcv_accept.specs.Accepted.{net_for}
use Rattle.rcv_export.specs.TableJson.{role_failures}
use Rattle.rcv_export.proofs.table.failures.Given as goal

abbrev pub invariant-loop-number : goal.invariant-loop-number
invariant-loop-number l = map view l.list.items ≡ flat_map (role_failures (net_for l.accepted) l.accepted.protocol.roles l.table) (range_with_len 0 l.number)
