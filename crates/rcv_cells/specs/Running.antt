-- What the cells of a session do in a round, under watches of a fence that was lowered before.
use Rattle.std.specs.Prelude.{◌≡◌, ℕ, ◌<◌, ◌≤◌, true, Option, Some, None, List, [], ◌∷◌, ◌++◌, length, slice_index_or, All}
use Rattle.std.proofs.Common.{subst}
use Rattle.rcv_tree.specs.declared.entry.Entry.{Entry}
use Rattle.rcv_theory.specs.Round.{IsLog}
use Rattle.rcv_fence.specs.Shown.{FenceId, Shown}
use Rattle.rcv_merge.specs.Merge.{log_at, IsMergeOf}
use Rattle.rcv_session.specs.Session.{rules_of}
use Rattle.rcv_core.specs.Book.{BookView, state_of, with_more}
use Rattle.rcv_role.specs.declared.poll.Stop.{Stop}
use Rattle.rcv_role.specs.Cell.{CellView, Goes}
use Rattle.rcv_role.specs.Run.{Ran}
use Rattle.rcv_cells.specs.Home.{cell_at, round_steps, IsReady, logs_in}

-- Each watch is one of this watch's fence.
abbrev pub AreWatched : Shown → List Shown → Type 0
AreWatched watch watches = All (λ (other : Shown). other.fence ≡ watch.fence) watches

-- The last thing that the watch wrote lowered its fence.
pub record IsLowered (watch : Shown) : Type 0 where
  pub before : List ℕ
  pub last : watch.raised ≡ before ++ 0 ∷ []

-- A cell stays as it is.
pub record Stays (old new : CellView) : Type 0 where
  pub same : new ≡ old
  pub goes : Goes old new

-- One run under a watch of this fence.
pub record RanOnce (fence : FenceId) (old new : CellView) : Type 0 where
  pub turns : ℕ
  pub watch : Shown
  pub behind : Shown
  pub stop : Stop
  pub of_fence : watch.fence ≡ fence
  pub ran : Ran turns old new watch behind stop
  pub goes : Goes old new

-- What runs under watches of this fence make of a cell. A crashed one and one with a full log stay as they are; else it is one run, or runs
-- after runs.
pub data Runs (fence : FenceId) : CellView → CellView → Type 0 where
  stays_crashed : {a b : CellView} → a.part.own.numbers.crashed ≡ true → Stays a b → Runs fence a b
  stays_full : {a b : CellView} → round_steps ≤ length a.part.log → Stays a b → Runs fence a b
  one_run : {a b : CellView} → RanOnce fence a b → Runs fence a b
  more_runs : {a b c : CellView} → Runs fence a b → Runs fence b c → Runs fence a c

-- Each of the cells ran after this watch had lowered the fence.
pub record HaveRun (watch : Shown) (cells gone : List CellView) : Type 0 where
  pub lowered : IsLowered watch
  pub count : length gone ≡ length cells
  pub each : (r : ℕ) (d : CellView) → r < length cells → Runs watch.fence (cell_at cells r d) (cell_at gone r d)

-- Each of the cells ran after this watch had lowered the fence. Each log is a log of its role at the state of the old book. The logs were
-- merged by stamp, and the merged entries were added to the book.
pub record HasMadeRound (watch : Shown) (old new : BookView) (cells : List CellView) : Type 0 where
  pub gone : List CellView
  pub ran : HaveRun watch cells gone
  pub merged : List Entry
  pub is : IsMergeOf (logs_in gone) merged
  pub lawful : (r : ℕ) → IsLog (rules_of old.setup) r (state_of old) (log_at (logs_in gone) r)
  pub added : new ≡ with_more old merged

-- The cell at a place may run, if there is one.
abbrev pub MayRun : Option CellView → Type 0
MayRun None = Unit {0}
MayRun (Some c) = IsReady c

-- The cell at a place ran, if there is one; and no cell came to a place without one.
abbrev pub RanAt : FenceId → Option CellView → Option CellView → Type 0
RanAt fence None new = new ≡ None
RanAt fence (Some c) new = (c' : CellView) × (new ≡ Some c') × Runs fence c c'

-- Runs at a place, and then more runs there, are runs there.
pub more_runs_at : (fence : FenceId) (a b c : Option CellView) → RanAt fence a b → RanAt fence b c → RanAt fence a c
more_runs_at fence None b c ran then = subst (λ o. RanAt fence o c) ran then
more_runs_at fence (Some x) b c ran then =
    let behind : RanAt fence (Some ran.0) c = subst (λ o. RanAt fence o c) ran.1 then in
    (behind.0, behind.1, more_runs ran.2 behind.2)

-- The cells at the places of a half ran after this watch had lowered the fence.
pub record HalfHasRun (watch : Shown) (half gone : List (Option CellView)) : Type 0 where
  pub lowered : IsLowered watch
  pub count : length gone ≡ length half
  pub each : (r : ℕ) (d : Option CellView) → r < length half
      → RanAt watch.fence (slice_index_or half r d) (slice_index_or gone r d)
