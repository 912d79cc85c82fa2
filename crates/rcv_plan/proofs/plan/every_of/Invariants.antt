use Rattle.std.proofs.Common.{◌≡◌, drop}
use Rattle.std.specs.Prelude.{map}
use Rattle.rcv_model.specs.Plan.{every_in}
use Rattle.rcv_plan.specs.Lines.{line_in}
use Rattle.rcv_plan.proofs.plan.every_of.Given as goal

abbrev pub invariant-loop-line : goal.invariant-loop-line
invariant-loop-line l = every_in (map line_in (drop l.line-index l.lines)) l.role ≡ every_in (map line_in l.lines) l.role
