-- The lines so far.
use Rattle.std.specs.Prelude.{◌≡◌, map, take}
use Rattle.serde_json.specs.View.{view}
use Rattle.rcv_export.specs.Pieces.{count}
use Rattle.rcv_points_json.proofs.point.lines_value.Given as goal

abbrev pub invariant-loop-line : goal.invariant-loop-line
invariant-loop-line l = map view l.list.items ≡ map count (take l.line-index l.lines)
