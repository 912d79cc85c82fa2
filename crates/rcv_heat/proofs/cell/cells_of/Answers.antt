-- A cell more.
use Rattle.std.proofs.Common.{Option, sym, subst, take, ◌+◌}
use Rattle.rcv_costs.specs.declared.numbers.Cost.{Cost}
use Rattle.rcv_losses.specs.Totals.{worst_of}
use Rattle.rcv_heat.specs.Heat.{IsCell, AreCells}
use Rattle.rcv_heat.proofs.Cells.{one_more}
use Rattle.rcv_heat.proofs.cell.cells_of.Goals as goal

pub loop-cost-preserved : goal.loop-cost-preserved
loop-cost-preserved c =
    let session = c.args.setup.now in
    let grid = c.args.grid in
    let costs = c.args.costs.now in
    let worst = worst_of costs in
    let i = c.loop-cost.cost-index in
    let here = subst (λ (w : Option Cost). IsCell session grid w c.cost-item.result c.in_ok-cell.cell) c.worst_of-worst.ensures c.in_ok-cell.ensures in
    subst (AreCells session grid worst (take (i + 1) costs)) (sym c.in_ok-push.ensures.items)
    (one_more session grid worst costs i c.cost-item.result c.in_ok-cell.cell c.loop-cost.cells.items c.loop-cost-test.true c.cost-item.is c.loop-cost.invariant here)
