use Rattle.std.proofs.Common.{◌≡◌, drop}
use Rattle.rcv_losses.specs.Totals.{costs_by, worst_after, worst_of}
use Rattle.rcv_losses.proofs.totals.worst_by.Given as goal

abbrev pub invariant-loop-cost : goal.invariant-loop-cost
invariant-loop-cost l = worst_after l.worst (costs_by l.role (drop l.cost-index l.costs)) ≡ worst_of (costs_by l.role l.costs)
