use Rattle.std.proofs.Common.{◌≡◌, drop}
use Rattle.rcv_losses.specs.Totals.{worst_after, worst_of}
use Rattle.rcv_losses.proofs.totals.worst_of.Given as goal

abbrev pub invariant-loop-cost : goal.invariant-loop-cost
invariant-loop-cost l = worst_after l.worst (drop l.cost-index l.costs) ≡ worst_of l.costs
