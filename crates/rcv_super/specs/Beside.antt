-- Cells that a recovery concerns go back, and beside them the others run.
use Rattle.std.specs.Prelude.{◌≡◌, ℕ, ◌<◌, true, false, Option, Some, None, List, length, slice_index_or}
use Rattle.rcv_tree.specs.Bits.{has_bit}
use Rattle.rcv_tree.specs.declared.entry.Entry.{Entry}
use Rattle.rcv_tree.specs.declared.role.RoleSet.{RoleSet}
use Rattle.rcv_fence.specs.Shown.{FenceId, Shown}
use Rattle.rcv_merge.specs.Merge.{IsMergeOf}
use Rattle.rcv_core.specs.Book.{BookView, IsRecoveryOf, with_entry, with_more}
use Rattle.rcv_role.specs.Part.{HasNoStrangers}
use Rattle.rcv_role.specs.Cell.{CellView, AreJoined}
use Rattle.rcv_cells.specs.Home.{cell_at, AreHome, logs_in}
use Rattle.rcv_cells.specs.Running.{IsLowered, Runs}
use Rattle.rcv_rollback.specs.Back.{HasGone, HasGoneAlone}
use Rattle.rcv_super.specs.Steps.{concerned_of}

-- No cell at a place may make a step: there is none, or it is crashed.
abbrev pub IsIdle : Option CellView → Type 0
IsIdle None = Unit {0}
IsIdle (Some c) = (c.part.own.numbers.crashed ≡ true) × HasNoStrangers c.part

abbrev pub AreIdle : List (Option CellView) → Type 0
AreIdle half = (r : ℕ) (d : Option CellView) → r < length half → IsIdle (slice_index_or half r d)

-- The concerned cells went back to what the book keeps, and the others ran under watches of this fence.
pub record HaveParted (fence : FenceId) (book : BookView) (concerned : RoleSet) (cells gone : List CellView)
    : Type 0 where
  pub count : length gone ≡ length cells
  pub back : (r : ℕ) (d : CellView) → r < length cells → has_bit concerned.0 r ≡ true
      → HasGone book r (cell_at cells r d) (cell_at gone r d)
  pub alone : (r q : ℕ) (d : CellView) → r < length cells → q < length cells
      → has_bit concerned.0 r ≡ true → has_bit concerned.0 q ≡ false
      → HasGoneAlone r q (cell_at cells r d) (cell_at gone r d)
  pub joined : (s r : ℕ) (d : CellView) → s < length cells → r < length cells
      → has_bit concerned.0 s ≡ true → has_bit concerned.0 r ≡ true → (s ≡ r → ⊥)
      → AreJoined (cell_at gone s d) (cell_at gone r d)
  pub ran : (r : ℕ) (d : CellView) → r < length cells → has_bit concerned.0 r ≡ false
      → Runs fence (cell_at cells r d) (cell_at gone r d)

-- The book's last entry is a recovery. At it the cells parted, after the fence was lowered, by this watch. Before it they were at home.
pub record ArePartedBehind (watch : Shown) (book : BookView) (gone : List CellView) : Type 0 where
  pub before : BookView
  pub role : ℕ
  pub entry : Entry
  pub recovers : IsRecoveryOf before role entry
  pub added : book ≡ with_entry before entry
  pub lowered : IsLowered watch
  pub cells : List CellView
  pub home : AreHome before cells
  pub parted : HaveParted watch.fence (with_entry before entry) (concerned_of entry) cells gone

-- The logs of these cells were merged by stamp, and the result was added.
pub record HaveMerged (old new : BookView) (gone : List CellView) : Type 0 where
  pub merged : List Entry
  pub is : IsMergeOf (logs_in gone) merged
  pub added : new ≡ with_more old merged
