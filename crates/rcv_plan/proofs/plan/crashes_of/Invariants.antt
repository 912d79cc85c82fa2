use Rattle.std.proofs.Common.{◌≡◌, ◌++◌, drop}
use Rattle.std.specs.Prelude.{map}
use Rattle.rcv_model.specs.Plan.{crashes_in}
use Rattle.rcv_plan.specs.Lines.{line_in}
use Rattle.rcv_plan.proofs.plan.crashes_of.Given as goal

abbrev pub invariant-loop-line : goal.invariant-loop-line
invariant-loop-line l = l.counts.items ++ crashes_in (map line_in (drop l.line-index l.lines)) l.role ≡ crashes_in (map line_in l.lines) l.role
