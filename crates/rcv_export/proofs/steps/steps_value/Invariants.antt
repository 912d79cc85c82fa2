-- The steps so far.
use Rattle.std.specs.Prelude.{◌≡◌, map, take}
use Rattle.serde_json.specs.View.{view}
use Rattle.rcv_export.specs.RoleJson.{step_data}
use Rattle.rcv_export.proofs.steps.steps_value.Given as goal

abbrev pub invariant-loop-point : goal.invariant-loop-point
invariant-loop-point l = map view l.list.items ≡ map (step_data l.accepted l.dir) (take l.point-index l.points)
