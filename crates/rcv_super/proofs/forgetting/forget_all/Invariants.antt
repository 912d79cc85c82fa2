use Rattle.std.proofs.Common.{◌≡◌, ◌<◌, ◌≤◌, ℕ, length}
use Rattle.std.specs.Prelude.{slice_index}
use Rattle.rcv_role.specs.Cell.{CellView}
use Rattle.rcv_cells.specs.Home.{cell_at}
use Rattle.rcv_super.specs.Bases.{without_states}
use Rattle.rcv_super.proofs.forgetting.forget_all.Given as goal

abbrev pub invariant-loop-role : goal.invariant-loop-role
invariant-loop-role l =
    (length l.lanes.items ≡ length l.initial.lanes.items)
    × ((r : ℕ) (d : CellView) → r < l.role → cell_at l.lanes.items r d ≡ without_states (cell_at l.initial.lanes.items r d) (slice_index l.line r))
    × ((r : ℕ) (d : CellView) → l.role ≤ r → cell_at l.lanes.items r d ≡ cell_at l.initial.lanes.items r d)
