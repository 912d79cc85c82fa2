use Rattle.std.proofs.Common.{◌≡◌, take, map}
use Rattle.rcv_plan.specs.Lines.{line_in}
use Rattle.rcv_plan.specs.Shifted.{shifted}
use Rattle.rcv_plan.proofs.plan.shifted_lines.Given as goal

abbrev pub invariant-loop-line : goal.invariant-loop-line
invariant-loop-line l = map line_in l.later.items ≡ shifted l.by (map line_in (take l.line-index l.lines))
