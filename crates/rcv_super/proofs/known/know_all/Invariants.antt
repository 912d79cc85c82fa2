-- The cells so far hold their states.
use Rattle.std.proofs.Common.{◌<◌, ℕ}
use Rattle.rcv_role.specs.Part.{HoldsStates}
use Rattle.rcv_role.specs.Cell.{CellView}
use Rattle.rcv_cells.specs.Home.{cell_at}
use Rattle.rcv_super.proofs.known.know_all.Given as goal

abbrev pub invariant-loop-cell : goal.invariant-loop-cell
invariant-loop-cell l = (r : ℕ) (d : CellView) → r < l.cell-index → HoldsStates (cell_at l.lanes.items r d).part
