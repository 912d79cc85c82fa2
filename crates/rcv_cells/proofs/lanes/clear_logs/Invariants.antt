use Rattle.std.proofs.Common.{◌≡◌, ◌<◌, ◌≤◌, ℕ, length}
use Rattle.rcv_role.specs.Cell.{CellView, without_log}
use Rattle.rcv_cells.specs.Home.{cell_at}
use Rattle.rcv_cells.proofs.lanes.clear_logs.Given as goal

abbrev pub invariant-loop-role : goal.invariant-loop-role
invariant-loop-role l =
    (length l.lanes ≡ length l.initial.lanes)
    × ((r : ℕ) (d : CellView) → r < l.role → cell_at l.lanes r d ≡ without_log (cell_at l.initial.lanes r d))
    × ((r : ℕ) (d : CellView) → l.role ≤ r → cell_at l.lanes r d ≡ cell_at l.initial.lanes r d)
