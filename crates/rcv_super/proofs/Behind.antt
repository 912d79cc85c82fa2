-- Behind a recovery: how the cells parted at it, and how they come home.
use Rattle.std.proofs.Common.{◌≡◌, ℕ, suc, ◌<◌, ◌≤◌, Option, Some, None, List, [], ◌∷◌, length, map, refl, sym, ◌∙◌, ap, subst, ⊎_elim, arith}
use Rattle.std.specs.Prelude.{All}
use Rattle.std.proofs.lemmas.Bool.{cases_Bool}
use Rattle.std.proofs.lemmas.Option.{get_or_from_slice_get}
use Rattle.rcv_tree.specs.Bits.{has_bit}
use Rattle.rcv_tree.specs.declared.entry.Entry.{Entry}
use Rattle.rcv_tree.specs.declared.entry.Entry.TheVariants.{Send, Recv, Crash, Recover}
use Rattle.rcv_tree.specs.declared.entry.Timed.{Timed}
use Rattle.rcv_tree.specs.declared.role.RoleSet.{RoleSet}
use Rattle.rcv_model.specs.Journal.{own_of, start, IsLegal, IsLegalFrom}
use Rattle.rcv_model.proofs.Located.{item}
use Rattle.rcv_theory.specs.Round.{NeverFalls, IsLog}
use Rattle.rcv_theory.proofs.BesideRounds.{legal_front}
use Rattle.rcv_fence.specs.Shown.{FenceId, Shown}
use Rattle.rcv_merge.specs.Merge.{log_at, IsMergeOf}
use Rattle.rcv_accept.specs.Accepted.{IsAcceptedProtocol}
use Rattle.rcv_session.specs.Session.{roles_of, rules_of}
use Rattle.rcv_core.specs.Book.{BookView, state_of, with_entry, with_more, IsRecoveryOf}
use Rattle.rcv_role.specs.Part.{PartView}
use Rattle.rcv_role.specs.Cell.{CellView, without_log}
use Rattle.rcv_cells.specs.Home.{cell_at, AreHome, AllMet, AllBegun, AllCanMeet, logs_in}
use Rattle.rcv_cells.specs.Ahead.{BringHome}
use Rattle.rcv_cells.specs.Running.{MayRun, HalfHasRun}
use Rattle.rcv_cells.proofs.Ahead.{no_recover_in_log, no_recover_merged, cleared_at, cleared_count}
use Rattle.rcv_cells.proofs.Rounds.{all_ready}
use Rattle.rcv_rollback.specs.Halves.{AreSplit}
use Rattle.rcv_rollback.specs.Back.{HaveGoneBack}
use Rattle.rcv_super.specs.Beside.{HaveParted, ArePartedBehind}
use Rattle.rcv_super.specs.Steps.{concerned_of}
use Rattle.rcv_super.proofs.Parted.{can_meet, stamps_rise, may_follow, all_home}
use Rattle.rcv_super.proofs.Besides.{beside_lawful}
use Rattle.rcv_super.proofs.Uniting.{parted}

-- the cells parted at the book's last entry
pub parted_behind : (watch : Shown) (book book' : BookView) (p : ℕ) (e : Entry) (concerned : RoleSet) (cells gone : List CellView) (back beside back' beside' : List (Option CellView)) → IsRecoveryOf book p e → book' ≡ with_entry book e → concerned ≡ concerned_of e → AreHome book cells → AreSplit concerned cells back beside → HaveGoneBack book' back back' → HalfHasRun watch beside beside' → AreSplit concerned gone back' beside' → ArePartedBehind watch book' gone
parted_behind watch book book' p e concerned cells gone back beside back' beside' recovers added same home split returned ran united = record {
  before = book;
  role = p;
  entry = e;
  recovers = recovers;
  added = added;
  lowered = ran.lowered;
  cells = cells;
  home = home;
  parted = subst (λ x. HaveParted watch.fence (with_entry book e) x cells gone) same (subst (λ b. HaveParted watch.fence b concerned cells gone) added (parted watch book' concerned cells back beside back' beside' split returned ran gone united));
}

-- those that aren't concerned may run
pub ready_beside : (book : BookView) (concerned : RoleSet) (cells : List CellView) (back beside : List (Option CellView)) → AreHome book cells → AreSplit concerned cells back beside → All MayRun beside
ready_beside book concerned cells back beside home split r d lt = ⊎_elim
    (λ t. subst MayRun (sym (get_or_from_slice_get beside r None d (split.goes r some low t).1)) tt)
    (λ f. subst MayRun (sym (get_or_from_slice_get beside r (Some (cell_at cells r some)) d (split.stays r some low f).1)) (all_ready book cells home r some low))
    (cases_Bool (has_bit concerned.0 r))
  where
    low : r < length cells
    low = let n = split.beside_count in omega (arith, n, lt)

    some : CellView
    some = (item cells r (let n = split.beside_count in omega (arith, n, lt))).0

-- a meeting changes no log
logs_same : (old new : List CellView) → length new ≡ length old → ((r : ℕ) (d : CellView) → r < length old → (cell_at new r d).part.log ≡ (cell_at old r d).part.log) → logs_in new ≡ logs_in old
logs_same [] [] count same = refl
logs_same [] (y ∷ ys) count same = absurd (omega (arith, count))
logs_same (x ∷ xs) [] count same = absurd (omega (arith, count))
logs_same (x ∷ xs) (y ∷ ys) count same =
    ap (λ (l : List Timed). l ∷ logs_in ys) (same 0 x (omega arith))
    ∙ ap (λ (l : List (List Timed)). x.part.log ∷ l) (logs_same xs ys (omega (arith, count)) (λ r d lt. same (suc r) d (omega (arith, lt))))

pub met_logs : (gone met : List CellView) → AllMet gone met → logs_in met ≡ logs_in gone
met_logs gone met meet = logs_same gone met meet.0 (λ r d lt. ap (λ (p : PartView). p.log) (meet.1 r d).part)

-- behind the book's last entry stamps rise in the logs, what is merged of them may come, and with it the cells come home
abbrev ComesHome : BookView → List CellView → Type 0
ComesHome book met =
    All NeverFalls (logs_in met)
    × ((merged : List Entry) → IsMergeOf (logs_in met) merged
    → IsLegalFrom (rules_of book.setup) (state_of book) merged
    × ((cells : List CellView) → length cells ≡ length met → ((r : ℕ) (d : CellView) → r < length met → cell_at cells r d ≡ without_log (cell_at met r d)) → AreHome (with_more book merged) cells))

comes_by : (fence : FenceId) (book : BookView) (p : ℕ) (e : Entry) (cells gone met : List CellView) → IsRecoveryOf book p e → AreHome book cells → HaveParted fence (with_entry book e) (concerned_of e) cells gone → AllMet gone met → AllBegun gone → IsAcceptedProtocol book.setup.protocol → IsLegal (rules_of book.setup) book.entries → ComesHome (with_entry book e) met
comes_by fence book p (Send e) cells gone met is home apart meet known accepted legal = absurd is
comes_by fence book p (Recv e) cells gone met is home apart meet known accepted legal = absurd is
comes_by fence book p (Crash q) cells gone met is home apart meet known accepted legal = absurd is
comes_by fence book p (Recover q concerned kept undone) cells gone met is home apart meet known accepted legal = (
  stamps_rise fence book q concerned kept undone cells gone met home apart meet known accepted legal is.1,
  λ merged merges. (
    may_follow fence book q concerned kept undone cells gone met home apart meet known accepted legal is.1 merged merges,
    λ cells' count cleared. all_home fence book q concerned kept undone cells gone met home apart meet known accepted legal is.1 merged merges cells' count cleared,
  ),
)

pub meet_behind : (watch : Shown) (book : BookView) (gone : List CellView) → ArePartedBehind watch book gone → AllCanMeet gone
meet_behind watch book gone parted = can_meet watch.fence parted.before parted.entry (concerned_of parted.entry) parted.cells gone parted.home parted.parted

module _ (watch : Shown) (book : BookView) (gone met : List CellView) (parted : ArePartedBehind watch book gone) (meet : AllMet gone met) (known : AllBegun gone) (accepted : IsAcceptedProtocol book.setup.protocol) (legal : IsLegal (rules_of book.setup) book.entries) where
  was_accepted : IsAcceptedProtocol parted.before.setup.protocol
  was_accepted = subst (λ (b : BookView). IsAcceptedProtocol b.setup.protocol) parted.added accepted

  was_legal : IsLegal (rules_of parted.before.setup) parted.before.entries
  was_legal = legal_front (rules_of parted.before.setup) (start (roles_of parted.before.setup)) parted.before.entries (parted.entry ∷ []) (subst (λ (b : BookView). IsLegal (rules_of b.setup) b.entries) parted.added legal)

  comes : ComesHome book met
  comes = subst (λ b. ComesHome b met) (sym parted.added) (comes_by watch.fence parted.before parted.role parted.entry parted.cells gone met parted.recovers parted.home parted.parted meet known was_accepted was_legal)

  pub few_behind : length met ≤ 8
  few_behind =
      let few = was_accepted.form.few_roles in
      let home = parted.home.out.count in
      let count = parted.parted.count in
      let here = meet.0 in
      omega (arith, few, home, count, here)

  pub rise_behind : All NeverFalls (logs_in met)
  rise_behind = comes.0

  pub follow_behind : (merged : List Entry) → IsMergeOf (logs_in met) merged → IsLegalFrom (rules_of book.setup) (state_of book) merged
  follow_behind merged is = (comes.1 merged is).0

  pub home_behind : (merged : List Entry) → IsMergeOf (logs_in met) merged → (book' : BookView) (cells : List CellView) → book' ≡ with_more book merged → length cells ≡ length met → ((r : ℕ) (d : CellView) → r < length met → cell_at cells r d ≡ without_log (cell_at met r d)) → AreHome book' cells
  home_behind merged is book' cells added count cleared = subst (λ b. AreHome b cells) (sym added) ((comes.1 merged is).1 cells count cleared)

  -- and they bring the cells home
  pub behind_brings_home : (merged : List Entry) → IsMergeOf (logs_in met) merged → BringHome book merged met
  behind_brings_home merged is = record {
    no_recover = no_recover_merged (logs_in met) merged is (λ r. no_recover_in_log (rules_of parted.before.setup) r (own_of (state_of parted.before) r) (log_at (logs_in met) r)
        (subst (λ (logs : List (List Timed)). IsLog (rules_of parted.before.setup) r (state_of parted.before) (log_at logs r)) (sym (met_logs gone met meet))
        (beside_lawful watch.fence parted.before parted.entry (concerned_of parted.entry) parted.cells gone parted.home parted.parted r)));
    home = home_behind merged is (with_more book merged) (map without_log met) refl (cleared_count met) (λ r d lt. cleared_at met r d lt);
  }
