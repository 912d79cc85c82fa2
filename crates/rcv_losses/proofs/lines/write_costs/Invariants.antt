use Rattle.std.proofs.Common.{◌≡◌, ◌++◌, flat_map, take}
use Rattle.rcv_losses.specs.LossText.{cost_line}
use Rattle.rcv_losses.proofs.lines.write_costs.Given as goal

abbrev pub invariant-loop-cost : goal.invariant-loop-cost
invariant-loop-cost l = l.text ≡ l.fn.text ++ flat_map (cost_line l.setup) (take l.cost-index l.costs)
