-- The things so far.
use Rattle.std.specs.Prelude.{◌≡◌, map, take}
use Rattle.serde_json.specs.View.{view}
use Rattle.rcv_points_json.specs.PointsJson.{thing_data}
use Rattle.rcv_points_json.proofs.unread.may_value.Given as goal

abbrev pub invariant-loop-thing : goal.invariant-loop-thing
invariant-loop-thing l = map view l.list.items ≡ map thing_data (take l.thing-index l.things)
