-- The roles so far.
use Rattle.std.specs.Prelude.{◌≡◌, flat_map, map}
use Rattle.std.specs.List.{range_with_len}
use Rattle.serde_json.specs.View.{view}
use Rattle.rcv_tables.specs.Rows.{row_at}
use Rattle.rcv_export.specs.TableJson.{concerned_data}
use Rattle.rcv_export.proofs.table.concerned.Given as goal

abbrev pub invariant-loop-number : goal.invariant-loop-number
invariant-loop-number l = map view l.list.items ≡ flat_map (concerned_data l.accepted.protocol.roles (row_at l.table l.role l.point)) (range_with_len 0 l.number)
