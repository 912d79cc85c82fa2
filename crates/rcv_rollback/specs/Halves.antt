-- The cells of a session in two halves: those that a recovery concerns, and those that may run beside it. Each cell
-- stands at its role's place in one half, and that place of the other half is empty.
use Rattle.std.specs.Prelude.{◌≡◌, ℕ, ◌<◌, true, false, Option, Some, None, List, length, slice_get, slice_index_or}
use Rattle.rcv_tree.specs.Bits.{has_bit}
use Rattle.rcv_tree.specs.declared.role.RoleSet.{RoleSet}

-- The half has this cell at the place of role r; or that place is empty.
abbrev pub Has : {T : Type 0} → List (Option T) → ℕ → T → Type 0
Has half r c = slice_get half r ≡ Some (Some c)

abbrev pub Lacks : {T : Type 0} → List (Option T) → ℕ → Type 0
Lacks half r = slice_get half r ≡ Some None

-- The concerned cells stand in one half, and the others in the other.
pub record AreSplit {T : Type 0} (concerned : RoleSet) (cells : List T) (back beside : List (Option T)) : Type 0 where
  pub back_count : length back ≡ length cells
  pub beside_count : length beside ≡ length cells
  pub goes : (r : ℕ) (d : T) → r < length cells → has_bit concerned.0 r ≡ true
      → Has back r (slice_index_or cells r d) × Lacks beside r
  pub stays : (r : ℕ) (d : T) → r < length cells → has_bit concerned.0 r ≡ false
      → Lacks back r × Has beside r (slice_index_or cells r d)
