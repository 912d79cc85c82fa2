use Rattle.std.proofs.Common.{◌≡◌, take, map}
use Rattle.rcv_plan.specs.Lines.{line_in}
use Rattle.rcv_plan.specs.OneCrash.{calm_lines}
use Rattle.rcv_plan.proofs.plan.calm_lines.Given as goal

abbrev pub invariant-loop-line : goal.invariant-loop-line
invariant-loop-line l = map line_in l.calm.items ≡ calm_lines (map line_in (take l.line-index l.lines))
