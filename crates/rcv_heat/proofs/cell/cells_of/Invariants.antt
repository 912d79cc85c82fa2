use Rattle.std.proofs.Common.{take}
use Rattle.rcv_losses.specs.Totals.{worst_of}
use Rattle.rcv_heat.specs.Heat.{AreCells}
use Rattle.rcv_heat.proofs.cell.cells_of.Given as goal

abbrev pub invariant-loop-cost : goal.invariant-loop-cost
invariant-loop-cost l = AreCells l.setup l.grid (worst_of l.costs) (take l.cost-index l.costs) l.cells.items
