use Rattle.std.proofs.Common.{◌≤◌}
use Rattle.rcv_heat.proofs.labels.picture_width.Given as goal

abbrev pub invariant-loop-cost : goal.invariant-loop-cost
invariant-loop-cost l = l.right ≤ 4001000
