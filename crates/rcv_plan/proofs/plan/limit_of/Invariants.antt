use Rattle.std.proofs.Common.{◌≡◌, drop}
use Rattle.std.specs.Prelude.{map}
use Rattle.rcv_model.specs.Plan.{limit_in}
use Rattle.rcv_plan.specs.Lines.{line_in}
use Rattle.rcv_plan.proofs.plan.limit_of.Given as goal

abbrev pub invariant-loop-line : goal.invariant-loop-line
invariant-loop-line l = limit_in (map line_in (drop l.line-index l.lines)) ≡ limit_in (map line_in l.lines)
