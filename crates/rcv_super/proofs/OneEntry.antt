-- Logs that hold one entry: it is the one step of its role, and the cells come home with it.
use Prim.Native.Nat.{zero, suc}
use Rattle.std.proofs.Common.{◌≡◌, ℕ, ◌<◌, Some, List, [], ◌∷◌, length, refl, sym, ◌∙◌, ap, subst, ⊎_elim, arith}
use Rattle.std.specs.Prelude.{slice_get}
use Rattle.std.proofs.lemmas.Bool.{cases_eq, cases_lt}
use Rattle.rcv_tree.specs.declared.entry.Entry.{Entry}
use Rattle.rcv_tree.specs.declared.entry.Entry.TheVariants.{Send, Recv, Crash, Recover}
use Rattle.rcv_tree.specs.declared.entry.Timed.{Timed}
use Rattle.rcv_tree.specs.declared.event.Event.{Event}
use Rattle.rcv_model.specs.Net.{HasTwoEnds}
use Rattle.rcv_model.specs.Journal.{Rules, State, May, IsLegal}
use Rattle.rcv_model.specs.Final.{IsStep}
use Rattle.rcv_model.proofs.Located.{item}
use Rattle.rcv_model.proofs.Unique.{one_send, one_recv, not_both}
use Rattle.rcv_theory.specs.Round.{Placed, role_of}
use Rattle.rcv_merge.specs.Merge.{log_at, IsMergeOf}
use Rattle.rcv_accept.specs.Accepted.{IsAcceptedProtocol}
use Rattle.rcv_session.specs.Session.{roles_of, rules_of}
use Rattle.rcv_core.specs.Book.{BookView, with_entry}
use Rattle.rcv_role.specs.Cell.{CellView, without_log}
use Rattle.rcv_cells.specs.Home.{cell_at, AreHome, logs_in}
use Rattle.rcv_cells.proofs.Rounds.{log_is, no_log, is_round, come_home}
use Rattle.rcv_super.specs.OneStep.{AreOutWith}

-- logs that hold one entry
pub record HoldOne (logs : ℕ → List Timed) (r : ℕ) (x : Timed) : Type 0 where
  pub one : logs r ≡ x ∷ []
  pub none : (q : ℕ) → (q ≡ r → ⊥) → logs q ≡ []

abbrev placed_at : ℕ → ℕ → Timed → Placed
placed_at r k x = record { role = r; position = k; timed = x }

some_same : {A : Type 0} {x y : A} → Some x ≡ Some y → x ≡ y
some_same e = cc

only : {A : Type 0} (x y : A) (k : ℕ) → slice_get (x ∷ []) k ≡ Some y → (0 ≡ k) × (x ≡ y)
only x y zero e = (refl, some_same e)
only x y (suc k) e = absurd (cc)

nothing_at : {A : Type 0} (y : A) (k : ℕ) → slice_get [] k ≡ Some y → ⊥
nothing_at y zero e = cc
nothing_at y (suc k) e = cc

module _ (logs : List (List Timed)) (r : ℕ) (x : Timed) (hold : HoldOne (log_at logs) r x) where
  one_sound : (i : ℕ) (a : Placed) → slice_get (placed_at r 0 x ∷ []) i ≡ Some a → slice_get (log_at logs a.role) a.position ≡ Some a.timed
  one_sound i a e = subst (λ (y : Placed). slice_get (log_at logs y.role) y.position ≡ Some y.timed) (only (placed_at r 0 x) a i e).1 (ap (λ l. slice_get l 0) hold.one)

  one_complete : (q k : ℕ) (y : Timed) → slice_get (log_at logs q) k ≡ Some y → (i : ℕ) × (slice_get (placed_at r 0 x ∷ []) i ≡ Some (placed_at q k y))
  one_complete q k y e = ⊎_elim
      (λ f. let o = only x y k (subst (λ l. slice_get l k ≡ Some y) (ap (log_at logs) f ∙ hold.one) e) in (0, ap (λ n. Some (placed_at n 0 x)) (sym f) ∙ ap (λ n. Some (placed_at q n x)) o.0 ∙ ap (λ t. Some (placed_at q k t)) o.1))
      (λ n. absurd (nothing_at y k (subst (λ l. slice_get l k ≡ Some y) (hold.none q n) e)))
      (cases_eq q r)

  pub one_merge : IsMergeOf logs (x.step ∷ [])
  one_merge = record {
    placed = placed_at r 0 x ∷ [];
    by_stamp = record { ascending = (tt, tt); sound = one_sound; complete = one_complete };
    is = refl;
  }

-- an entry that may come where the role's step is another is that step
pub sent_is : (rules : Rules) (s : State) (e : Event) (x : Entry) → HasTwoEnds rules.net → IsStep rules s (Send e) → role_of x ≡ e.role → May rules s x → x ≡ Send e
sent_is rules s e (Send y) two step role may = ap Send (one_send rules s y e role may step.3.1)
sent_is rules s e (Recv y) two step role may = absurd (not_both rules s e y (sym role) two step.3.1 may)
sent_is rules s e (Crash p) two step role may = absurd (step.1 p may.0 may.1)
sent_is rules s e (Recover p concerned kept undone) two step role may = absurd (step.0 p may.crashed)

pub got_is : (rules : Rules) (s : State) (e : Event) (x : Entry) → HasTwoEnds rules.net → IsStep rules s (Recv e) → role_of x ≡ e.role → May rules s x → x ≡ Recv e
got_is rules s e (Send y) two step role may = absurd (not_both rules s y e role two may step.3.1)
got_is rules s e (Recv y) two step role may = ap Recv (one_recv rules s y e role may step.3.1)
got_is rules s e (Crash p) two step role may = absurd (step.1 p may.0 may.1)
got_is rules s e (Recover p concerned kept undone) two step role may = absurd (step.0 p may.crashed)

-- where the cells are out with one entry, and it goes into the book, they come home
pub come_home_with : (book : BookView) (cells : List CellView) (entry : Entry) → AreOutWith book cells entry → IsAcceptedProtocol book.setup.protocol → IsLegal (rules_of book.setup) book.entries → (book' : BookView) (cells' : List CellView) → book' ≡ with_entry book entry → length cells' ≡ length cells → ((r : ℕ) (d : CellView) → r < length cells → cell_at cells' r d ≡ without_log (cell_at cells r d)) → AreHome book' cells'
come_home_with book cells entry out accepted legal book' cells' f count cleared = subst (λ b. AreHome b cells') (sym f) (come_home book cells out.out out.begun accepted legal (entry ∷ []) (one_merge (logs_in cells) (role_of entry) (record { stamp = out.stamp; step = entry }) hold) (is_round book cells out.out out.begun accepted legal out.there) cells' count cleared)
  where
    some : CellView
    some = (item cells (role_of entry) (let c = out.out.count in let l = out.declared in omega (arith, c, l))).0

    hold : HoldOne (log_at (logs_in cells)) (role_of entry) (record { stamp = out.stamp; step = entry })
    hold = record {
      one = log_is book cells out.out out.begun accepted legal (role_of entry) some out.declared ∙ out.made some;
      none = λ q n. ⊎_elim
          (λ l. log_is book cells out.out out.begun accepted legal q some l ∙ out.others q some l n)
          (λ le. no_log book cells out.out out.begun accepted legal q le)
          (cases_lt q (roles_of book.setup));
    }
