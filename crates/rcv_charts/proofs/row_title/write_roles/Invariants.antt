use Rattle.std.proofs.Common.{◌≡◌, ◌++◌, flat_map}
use Rattle.std.specs.List.{range_with_len}
use Rattle.rcv_tables.specs.Rows.{row_at}
use Rattle.rcv_tables.specs.TableText.{concerned_text}
use Rattle.rcv_charts.proofs.row_title.write_roles.Given as goal

abbrev pub invariant-loop-number : goal.invariant-loop-number
invariant-loop-number l = l.text ≡ l.initial.text ++ flat_map (concerned_text l.accepted.protocol.roles (row_at l.table l.role l.point)) (range_with_len 0 l.number)
