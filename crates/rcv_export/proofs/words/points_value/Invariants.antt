-- The points so far.
use Rattle.std.specs.Prelude.{◌≡◌, map, take}
use Rattle.serde_json.specs.View.{view}
use Rattle.rcv_export.specs.Pieces.{count}
use Rattle.rcv_export.proofs.words.points_value.Given as goal

abbrev pub invariant-loop-point : goal.invariant-loop-point
invariant-loop-point l = map view l.list.items ≡ map count (take l.point-index l.points)
