-- One point more.
use Rattle.std.proofs.Common.{map}
use Rattle.serde_json.specs.View.{view}
use Rattle.rcv_points.specs.Follow.{net_in}
use Rattle.rcv_points_json.specs.PointsJson.{point_data}
use Rattle.rcv_points_json.proofs.Lists.{point_more}
use Rattle.rcv_points_json.proofs.point.points_value.Goals as goal

pub loop-before-preserved : goal.loop-before-preserved
loop-before-preserved c = point_more (point_data c.args.table.now.roles.now (net_in c.args.table.now.points.now) c.args.table.now.lines.now) c.loop-before.before (map view c.loop-before.list.items) (map view c.push_point.new.list.items) c.loop-before.invariant c.in_ok-push_point.ensures
