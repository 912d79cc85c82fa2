-- Runs make a cell go on, and one run may come behind another.
use Rattle.std.proofs.Common.{◌≡◌, ℕ, ◌<◌, ◌≤◌, Option, List, length, refl, sym, ◌∙◌, subst, arith}
use Rattle.std.specs.Prelude.{slice_index_or}
use Rattle.rcv_fence.specs.Shown.{FenceId, Shown}
use Rattle.rcv_role.specs.Cell.{CellView, IsSettled, Goes}
use Rattle.rcv_role.proofs.Going.{goes_on, stays}
use Rattle.rcv_role.specs.Part.{HasNoStrangers}
use Rattle.rcv_passes.specs.Round.{HaveRunWithEach}
use Rattle.rcv_cells.specs.Home.{cell_at, IsReady, AllGo}
use Rattle.rcv_cells.specs.Running.{AreWatched, IsLowered, Stays, Runs, stays_crashed, stays_full, one_run, more_runs, HaveRun, MayRun, RanAt, HalfHasRun}

pub runs_go : (fence : FenceId) (a b : CellView) → Runs fence a b → Goes a b
runs_go fence a b (stays_crashed crashed same) = same.goes
runs_go fence a b (stays_full full same) = same.goes
runs_go fence a b (one_run run) = run.goes
runs_go fence a b (more_runs {b = now} first then) = goes_on a now b (runs_go fence a now first) (runs_go fence now b then)

-- a cell that stays
pub cell_stays : (c : CellView) → IsSettled c → HasNoStrangers c.part → Stays c c
cell_stays c settled strangers = record { same = refl; goes = stays c settled strangers }

-- the cells of a list go on
pub all_go : (watch : Shown) (cells gone : List CellView) → HaveRun watch cells gone → AllGo cells gone
all_go watch cells gone ran = (ran.count, λ r d lt. runs_go watch.fence (cell_at cells r d) (cell_at gone r d) (ran.each r d lt))

-- watches of one fence are alike, and stay so
pub watched_alike : (watch : Shown) (watches : List Shown) → AreWatched watch watches → (i j : ℕ) (d e : Shown) → i < length watches → j < length watches → (slice_index_or watches j e).fence ≡ (slice_index_or watches i d).fence
watched_alike watch watches all i j d e li lj = all j e lj ∙ sym (all i d li)

pub watched_still : (watch : Shown) (old new : List Shown) → AreWatched watch old → length new ≡ length old → ((i : ℕ) (d : Shown) → i < length old → (slice_index_or new i d).fence ≡ (slice_index_or old i d).fence) → AreWatched watch new
watched_still watch old new all count same i d lt = let l : i < length old = omega (arith, lt, count) in same i d l ∙ all i d l

-- what ran with the first of the watches ran under a watch of this fence
pub have_run : (watch : Shown) (watches : List Shown) (old new : List CellView) → IsLowered watch → AreWatched watch watches → 1 ≤ length watches → HaveRunWithEach IsReady (λ (w : Shown). Runs w.fence) watches old new → HaveRun watch old new
have_run watch watches old new lowered all some ran =
    let first = ran 0 watch (omega (arith, some)) in
    record {
      lowered = lowered;
      count = first.0;
      each = λ r d lt. subst (λ f. Runs f (cell_at old r d) (cell_at new r d)) (all 0 watch (omega (arith, some))) (first.2 r d lt);
    }

pub half_has_run : (watch : Shown) (watches : List Shown) (old new : List (Option CellView)) → IsLowered watch → AreWatched watch watches → 1 ≤ length watches → HaveRunWithEach MayRun (λ (w : Shown). RanAt w.fence) watches old new → HalfHasRun watch old new
half_has_run watch watches old new lowered all some ran =
    let first = ran 0 watch (omega (arith, some)) in
    record {
      lowered = lowered;
      count = first.0;
      each = λ r d lt. subst (λ f. RanAt f (slice_index_or old r d) (slice_index_or new r d)) (all 0 watch (omega (arith, some))) (first.2 r d lt);
    }
