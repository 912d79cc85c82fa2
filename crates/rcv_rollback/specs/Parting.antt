-- Cells on their way into two halves, and out of them.
use Rattle.std.specs.Prelude.{◌≡◌, ℕ, ◌≤◌, Bool, Option, Some, None, if◌then◌else◌, List, [], ◌∷◌, ◌++◌, length, take, slice_get}
use Rattle.rcv_tree.specs.declared.role.RoleSet.{RoleSet}
use Rattle.rcv_role.specs.Cell.{CellView}
use Rattle.rcv_rollback.specs.Halves.{AreSplit}

-- Both halves got a place more, and one of them the cell in it.
pub record ArePushedApart {T : Type 0} (back back_now beside beside_now : List (Option T)) (c : T) (is_concerned : Bool)
    : Type 0 where
  pub back_is : back_now ≡ back ++ (if is_concerned then Some c else None) ∷ []
  pub beside_is : beside_now ≡ beside ++ (if is_concerned then None else Some c) ∷ []

-- The first n places of two halves were emptied into a list of cells.
pub record AreUnitedTo (concerned : RoleSet) (old_back old_beside : List (Option CellView)) (n : ℕ)
    (cells : List CellView) (back beside : List (Option CellView)) : Type 0 where
  pub back_count : length back ≡ length old_back
  pub beside_count : length beside ≡ length old_beside
  pub cells_are : (all : List CellView) → AreSplit concerned all old_back old_beside → cells ≡ take n all
  pub back_stays : (k : ℕ) → n ≤ k → slice_get back k ≡ slice_get old_back k
  pub beside_stays : (k : ℕ) → n ≤ k → slice_get beside k ≡ slice_get old_beside k
