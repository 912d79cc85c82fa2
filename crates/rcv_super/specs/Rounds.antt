-- What a turn of several workers does: a recovery with what runs beside it, or a round.
use Rattle.std.specs.Prelude.{◌≡◌, ◌⊎◌, ℕ, ◌<◌, true, false, List, [], ◌∷◌, length}
use Rattle.rcv_tree.specs.Bits.{has_bit}
use Rattle.rcv_tree.specs.declared.entry.Entry.{Entry}
use Rattle.rcv_tree.specs.declared.role.RoleSet.{RoleSet}
use Rattle.rcv_model.specs.Final.{IsCrashed, IsLeastOf}
use Rattle.rcv_theory.specs.Round.{IsLog}
use Rattle.rcv_fence.specs.Shown.{Shown}
use Rattle.rcv_merge.specs.Merge.{log_at, IsMergeOf}
use Rattle.rcv_session.specs.Session.{rules_of}
use Rattle.rcv_core.specs.Book.{BookView, state_of, with_more, IsRecoveryOf}
use Rattle.rcv_alone.specs.Steps.{HasStepped}
use Rattle.rcv_role.specs.Cell.{CellView}
use Rattle.rcv_cells.specs.Home.{cell_at, AreHome, logs_in}
use Rattle.rcv_cells.specs.Running.{IsLowered, Runs, HasMadeRound}
use Rattle.rcv_super.specs.Steps.{HasGoneOn, HasRecovered, concerned_of}

-- A recovery concerns some of the cells, which were at home with the book before it. Each other cell ran beside it, after the fence was
-- lowered, by this watch. Their logs, each a log of its role where that book stands, were merged by stamp.
pub record HaveRunBeside (watch : Shown) (book : BookView) (concerned : RoleSet) (cells : List CellView)
    (merged : List Entry) : Type 0 where
  pub lowered : IsLowered watch
  pub gone : List CellView
  pub count : length gone ≡ length cells
  pub ran : (r : ℕ) (d : CellView) → r < length cells → has_bit concerned.0 r ≡ false
      → Runs watch.fence (cell_at cells r d) (cell_at gone r d)
  pub back : (r : ℕ) (d : CellView) → r < length cells → has_bit concerned.0 r ≡ true → (cell_at gone r d).part.log ≡ []
  pub is : IsMergeOf (logs_in gone) merged
  pub lawful : (r : ℕ) → IsLog (rules_of book.setup) r (state_of book) (log_at (logs_in gone) r)

-- The Recover of this role was added, and after it what the cells did that ran beside it.
pub record HasRecoveredBeside (old new : BookView) (role : ℕ) : Type 0 where
  pub entry : Entry
  pub recovers : IsRecoveryOf old role entry
  pub cells : List CellView
  pub home : AreHome old cells
  pub watch : Shown
  pub merged : List Entry
  pub beside : HaveRunBeside watch old (concerned_of entry) cells merged
  pub added : new ≡ with_more old (entry ∷ merged)

-- The cells of all roles were at home with the book and made a round. What it added is all that was added; or that was
-- nothing, so that all logs were empty, and the step that one thread makes next was added.
pub record HasGoneRound (old new : BookView) : Type 0 where
  pub cells : List CellView
  pub home : AreHome old cells
  pub watch : Shown
  pub behind : BookView
  pub made : HasMadeRound watch old behind cells
  pub goes : ((new ≡ behind) × HasGoneOn old behind) ⊎ ((behind ≡ old) × HasStepped old new)

-- No role of the book is crashed.
abbrev pub NoneIsCrashed : BookView → Type 0
NoneIsCrashed book = (r : ℕ) → IsCrashed (state_of book) r → ⊥

-- If a role was crashed, the least such role recovered, and the others ran beside it. If none was, a round was made.
pub record HasGoneTogether (old new : BookView) : Type 0 where
  pub recovered : (p : ℕ) → IsLeastOf (IsCrashed (state_of old)) p → HasRecoveredBeside old new p
  pub round : NoneIsCrashed old → HasGoneRound old new

-- The book is as it was; or just the Recover of the least crashed role was added.
abbrev pub HasOneRecovered : BookView → BookView → Type 0
HasOneRecovered old new = (p : ℕ) × IsLeastOf (IsCrashed (state_of old)) p × HasRecovered old new p

abbrev pub HasRecoveredAtMost : BookView → BookView → Type 0
HasRecoveredAtMost old new = (new ≡ old) ⊎ HasOneRecovered old new
