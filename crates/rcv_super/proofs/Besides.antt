-- What the cells logged that ran beside a recovery.
use Rattle.std.proofs.Common.{◌≡◌, ℕ, ◌<◌, true, false, Option, Some, None, List, [], ◌∷◌, ◌++◌, length, take, refl, sym, ◌∙◌, ap, subst, ⊎_elim, append_assoc, arith}
use Rattle.std.specs.Prelude.{slice_index_or, All}
use Rattle.std.proofs.Math.Seq.{take-append_seam}
use Rattle.std.proofs.lemmas.Bool.{cases_Bool, cases_lt}
use Rattle.rcv_tree.specs.Bits.{has_bit}
use Rattle.rcv_tree.specs.declared.entry.Entry.{Entry}
use Rattle.rcv_tree.specs.declared.entry.Timed.{Timed}
use Rattle.rcv_tree.specs.declared.role.RoleSet.{RoleSet}
use Rattle.rcv_model.specs.Journal.{own_of, reading_from}
use Rattle.rcv_model.proofs.Located.{item}
use Rattle.rcv_theory.specs.Round.{entries, IsLog}
use Rattle.rcv_fence.specs.Shown.{FenceId, Shown}
use Rattle.rcv_merge.specs.Merge.{log_at}
use Rattle.rcv_session.specs.Session.{SessionView, roles_of, rules_of}
use Rattle.rcv_core.specs.Book.{BookView, state_of, with_entry, with_more, IsRecoveryOf}
use Rattle.rcv_role.specs.Cell.{CellView}
use Rattle.rcv_role.proofs.Going.{stays}
use Rattle.rcv_role.proofs.Lawful.{cells_follow_the_session}
use Rattle.rcv_cells.specs.Home.{cell_at, AreHome, logs_in}
use Rattle.rcv_cells.specs.Running.{IsLowered, stays_crashed, MayRun, RanAt, HalfHasRun}
use Rattle.rcv_super.specs.Steps.{concerned_of}
use Rattle.rcv_super.specs.Beside.{IsIdle, AreIdle, HaveParted, HaveMerged}
use Rattle.rcv_super.specs.Rounds.{HasRecoveredBeside}
use Rattle.rcv_super.proofs.Parted.{went_on_at, log_of_cell, log_beyond}

module _ (fence : FenceId) (book : BookView) (recover : Entry) (concerned : RoleSet) (cells gone : List CellView) (home : AreHome book cells)
    (parted : HaveParted fence (with_entry book recover) concerned cells gone) where
  abbrev Lawful : ℕ → List Timed → Type 0
  Lawful r log = IsLog (rules_of book.setup) r (state_of book) log

  low : (r : ℕ) → r < length cells → r < roles_of book.setup
  low r lt = let c = home.out.count in omega (arith, c, lt)

  -- who ran made what its role may make where the book stands
  ran_lawful : (r : ℕ) (d : CellView) → r < length cells → has_bit concerned.0 r ≡ false → Lawful r (cell_at gone r d).part.log
  ran_lawful r d lt f =
      let o = home.out.each r d (low r lt) in
      let g = went_on_at fence (with_entry book recover) concerned cells gone parted r d lt f in
      let log : (cell_at gone r d).part.log ≡ g.more = g.log ∙ ap (λ l. l ++ g.more) (home.logs r d (low r lt)) in
      let here : own_of (state_of book) r ≡ (cell_at cells r d).part.own =
      subst (λ l. own_of (reading_from (rules_of book.setup) (state_of book) (entries l)) r ≡ (cell_at cells r d).part.own) (home.logs r d (low r lt)) o.own in
      let law = cells_follow_the_session (cell_at cells r d) (cell_at gone r d) (state_of book) g
      (subst (λ q. own_of (state_of book) q ≡ (cell_at cells r d).part.own) (sym o.role_is) here) in
      subst (Lawful r) (sym log)
      (subst (λ (z : SessionView × ℕ). IsLog (rules_of z.0) z.1 (state_of book) g.more) (λ i. (o.setup_is i, o.role_is i)) law.0)

  -- who went back made nothing
  pub back_log : (r : ℕ) (d : CellView) → r < length cells → has_bit concerned.0 r ≡ true → (cell_at gone r d).part.log ≡ []
  back_log r d lt t = (parted.back r d lt t).log ∙ home.logs r d (low r lt)

  cell_lawful : (r : ℕ) (d : CellView) → r < length cells → Lawful r (cell_at gone r d).part.log
  cell_lawful r d lt = ⊎_elim
      (λ t. subst (Lawful r) (sym (back_log r d lt t)) tt)
      (λ f. ran_lawful r d lt f)
      (cases_Bool (has_bit concerned.0 r))

  pub beside_lawful : (r : ℕ) → Lawful r (log_at (logs_in gone) r)
  beside_lawful r = ⊎_elim
      (λ lt.
      let d = (item cells r lt).0 in
      subst (Lawful r) (sym (log_of_cell gone r d (let n = parted.count in omega (arith, n, lt)))) (cell_lawful r d lt))
      (λ le. subst (Lawful r) (sym (log_beyond gone r (let n = parted.count in omega (arith, n, le)))) tt)
      (cases_lt r (length cells))

-- where nobody may run, all stay
idle_at : (fence : FenceId) (place : Option CellView) → MayRun place → IsIdle place → RanAt fence place place
idle_at fence None may idle = refl
idle_at fence (Some c) may idle = (c, refl, stays_crashed idle.0 (record { same = refl; goes = stays c may.0 idle.1 }))

pub idle_ran : (watch : Shown) (half : List (Option CellView)) → IsLowered watch → All MayRun half → AreIdle half → HalfHasRun watch half half
idle_ran watch half lowered ready idle = record {
  lowered = lowered;
  count = refl;
  each = λ r d lt. idle_at watch.fence (slice_index_or half r d) (ready r d lt) (idle r d lt);
}

-- what a list holds whose elements were all written
pub taken_back : (n : ℕ) (new rest : List CellView) → n ≡ length new → take n (new ++ rest) ≡ new
taken_back n new rest count = ap (λ (k : ℕ). take k (new ++ rest)) count ∙ take-append_seam new rest

-- how cells parted, in the entry's words
pub parted_at : (watch : Shown) (book' book : BookView) (e : Entry) (concerned : RoleSet) (cells gone : List CellView) → book' ≡ with_entry book e → concerned ≡ concerned_of e → HaveParted watch.fence book' concerned cells gone → HaveParted watch.fence (with_entry book e) (concerned_of e) cells gone
parted_at watch book' book e concerned cells gone added same parted = subst (λ x. HaveParted watch.fence (with_entry book e) x cells gone) same (subst (λ b. HaveParted watch.fence b concerned cells gone) added parted)

-- behind the Recover stands what the others did
pub recovered_beside : (watch : Shown) (old between new : BookView) (cells gone : List CellView) (role : ℕ) (e : Entry) → IsRecoveryOf old role e → between ≡ with_entry old e → AreHome old cells
    → IsLowered watch → HaveParted watch.fence (with_entry old e) (concerned_of e) cells gone → HaveMerged between new gone → HasRecoveredBeside old new role
recovered_beside watch old between new cells gone role e recovers added home lowered parted merged = record {
  entry = e;
  recovers = recovers;
  cells = cells;
  home = home;
  watch = watch;
  merged = merged.merged;
  beside = record {
    lowered = lowered;
    gone = gone;
    count = parted.count;
    ran = parted.ran;
    back = back_log watch.fence old e (concerned_of e) cells gone home parted;
    is = merged.is;
    lawful = beside_lawful watch.fence old e (concerned_of e) cells gone home parted;
  };
  added = merged.added
      ∙ ap (λ (b : BookView). with_more b merged.merged) added
      ∙ ap (λ (j : List Entry). record { setup = old.setup; entries = j }) (append_assoc old.entries (e ∷ []) merged.merged);
}
