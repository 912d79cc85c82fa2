use Rattle.std.proofs.Common.{◌≡◌, drop}
use Rattle.std.specs.Prelude.{map}
use Rattle.rcv_model.specs.Plan.{host_in}
use Rattle.rcv_plan.specs.Lines.{line_in}
use Rattle.rcv_plan.proofs.plan.host_name.Given as goal

abbrev pub invariant-loop-line : goal.invariant-loop-line
invariant-loop-line l = host_in (map line_in (drop l.line-index l.lines)) l.role ≡ host_in (map line_in l.lines) l.role
