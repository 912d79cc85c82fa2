use Rattle.std.proofs.Common.{◌≡◌, drop}
use Rattle.std.specs.Prelude.{map}
use Rattle.rcv_model.specs.Plan.{room_in}
use Rattle.rcv_plan.specs.Lines.{line_in}
use Rattle.rcv_plan.proofs.plan.room_of.Given as goal

abbrev pub invariant-loop-line : goal.invariant-loop-line
invariant-loop-line l = room_in (map line_in (drop l.line-index l.lines)) ≡ room_in (map line_in l.lines)
