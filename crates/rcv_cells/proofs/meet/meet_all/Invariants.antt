use Rattle.std.proofs.Common.{◌≡◌, ◌<◌, ℕ, length}
use Rattle.rcv_role.specs.Cell.{CellView}
use Rattle.rcv_cells.specs.Home.{cell_at, AllMet, HasBegun}
use Rattle.rcv_cells.proofs.meet.meet_all.Given as goal

abbrev pub invariant-loop-from : goal.invariant-loop-from
invariant-loop-from l =
    AllMet l.initial.lanes l.lanes
    × ((s r : ℕ) (d : CellView) → s < l.from → r < length l.initial.lanes → (s ≡ r → ⊥)
    → HasBegun (cell_at l.initial.lanes r d) (cell_at l.initial.lanes s d))
