-- The cell at the place ran.
use Rattle.std.proofs.Common.{Some, refl, sym, subst}
use Rattle.rcv_cells.specs.Running.{RanAt}
use Rattle.rcv_cells.proofs.lanes.OptionCellPlaceWatchCrew.run.Goals as goal

pub returns-in-Some-clause-ran : goal.returns-in-Some-clause-ran
returns-in-Some-clause-ran g c =
    subst (λ o. RanAt c.args.tool.now.fence o (Some c.run_cell.new.cell)) (sym c.in-Some.is)
    (c.run_cell.new.cell, refl, c.run_cell.ensures.ran)
