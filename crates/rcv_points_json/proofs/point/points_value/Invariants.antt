-- The points so far.
use Rattle.std.specs.Prelude.{◌≡◌, map}
use Rattle.std.specs.List.{range_with_len}
use Rattle.serde_json.specs.View.{view}
use Rattle.rcv_points.specs.Follow.{net_in}
use Rattle.rcv_points_json.specs.PointsJson.{point_data}
use Rattle.rcv_points_json.proofs.point.points_value.Given as goal

abbrev pub invariant-loop-before : goal.invariant-loop-before
invariant-loop-before l = map view l.list.items ≡ map (point_data l.table.roles.now (net_in l.table.points.now) l.table.lines.now) (range_with_len 1 l.before)
