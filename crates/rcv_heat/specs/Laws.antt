-- Cells don't meet.
use Rattle.std.specs.Prelude.{ℕ, ◌+◌, ◌/◌, ◌<◌, ◌≤◌}
use Rattle.rcv_heat.specs.declared.grid.Grid.{Grid}
use Rattle.rcv_heat.specs.Heat.{column_of, row_of, cell_height}

-- The cells of a role end above those of each later role.
abbrev pub RowsStandApart : Type 0
RowsStandApart = (r q : ℕ) → r < q → row_of r + cell_height < row_of q

-- A column ends before each column of a later multiple of the step begins, up to the 100,000th.
abbrev pub ColumnsStandApart : Type 0
ColumnsStandApart =
    (grid : Grid) (m n : ℕ) → m / grid.step < n / grid.step → n / grid.step ≤ 100000
    → column_of grid m + grid.wide ≤ column_of grid n
