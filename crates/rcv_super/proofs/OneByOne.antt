-- The steps that one worker makes by the book alone, and cells that follow.
use Prim.Native.Nat.{zero, suc}
use Rattle.std.proofs.Common.{◌≡◌, ℕ, ◌+◌, ◌<◌, List, [], ◌∷◌, ◌++◌, length, take, refl, sym, ◌∙◌, ap, subst, arith}
use Rattle.rcv_tree.specs.declared.entry.Entry.{Entry}
use Rattle.rcv_model.specs.Net.{HasTwoEnds}
use Rattle.rcv_model.specs.Journal.{Rules, State, start, after, reading_from, IsLegal}
use Rattle.rcv_model.specs.Final.{IsStep}
use Rattle.rcv_model.proofs.OneThread.{one_step}
use Rattle.rcv_session.specs.Session.{roles_of, rules_of}
use Rattle.rcv_core.specs.Book.{BookView, state_of, with_entry, HasMore}
use Rattle.rcv_alone.specs.Steps.{AreSteps, HasStepped}
use Rattle.rcv_alone.proofs.Stepping.{step_left, steps_more}

-- the step behind the first k of them
pub record StepAt (rules : Rules) (s : State) (j : List Entry) (k : ℕ) : Type 0 where
  pub entry : Entry
  pub step : IsStep rules (reading_from rules s (take k j)) entry
  pub more : take (k + 1) j ≡ take k j ++ entry ∷ []

plus : (k : ℕ) → suc k ≡ k + 1
plus k = omega arith

pub step_at : (rules : Rules) (s : State) (j : List Entry) (k : ℕ) → k < length j → AreSteps rules s j → StepAt rules s j k
step_at rules s [] k lt are = absurd (omega (arith, lt))
step_at rules s (d ∷ j) zero lt are = record { entry = d; step = are.0; more = refl }
step_at rules s (d ∷ j) (suc k) lt are =
    let x = step_at rules (after rules s d) j k (omega (arith, lt)) are.1 in
    record {
      entry = x.entry;
      step = x.step;
      more = ap (λ n. take n (d ∷ j)) (sym (plus (suc k))) ∙ ap (λ l. d ∷ l) (ap (λ n. take n j) (plus k) ∙ x.more);
    }

abbrev pub first_of : BookView → ℕ → BookView
first_of book k = record { setup = book.setup; entries = take k book.entries }

-- the first entries of the book, and one more
module _ (book : BookView) (k : ℕ) (lt : k < length book.entries) (are : AreSteps (rules_of book.setup) (start (roles_of book.setup)) book.entries) where
  here : StepAt (rules_of book.setup) (start (roles_of book.setup)) book.entries k
  here = step_at (rules_of book.setup) (start (roles_of book.setup)) book.entries k lt are

  pub left_at : (copy : BookView) → copy ≡ first_of book k → IsLegal (rules_of copy.setup) copy.entries → HasMore copy
  left_at copy is legal = step_left copy here.entry legal (subst (λ (b : BookView). IsStep (rules_of b.setup) (state_of b) here.entry) (sym is) here.step)

  pub next_copy : (copy new : BookView) → copy ≡ first_of book k → HasTwoEnds (rules_of book.setup).net → HasStepped copy new → new ≡ first_of book (k + 1)
  next_copy copy new is two stepped =
      let mine : IsStep (rules_of book.setup) (state_of (first_of book k)) stepped.entry = subst (λ (b : BookView). IsStep (rules_of b.setup) (state_of b) stepped.entry) is stepped.step in
      let same : stepped.entry ≡ here.entry = (one_step (rules_of book.setup) (state_of (first_of book k)) stepped.entry here.entry).same two mine here.step in
      stepped.added
      ∙ ap (λ (b : BookView). with_entry b stepped.entry) is
      ∙ ap (λ e. with_entry (first_of book k) e) same
      ∙ ap (λ (l : List Entry). record { setup = book.setup; entries = l }) (sym here.more)

pub take_all : {A : Type 0} (xs : List A) (k : ℕ) → k ≡ length xs → take k xs ≡ xs
take_all [] zero e = refl
take_all [] (suc k) e = absurd (omega (arith, e))
take_all (x ∷ xs) zero e = absurd (omega (arith, e))
take_all (x ∷ xs) (suc k) e = ap (λ l. x ∷ l) (take_all xs k (omega (arith, e)))

-- the book has one step more
pub stepped_on : (old new : BookView) → AreSteps (rules_of old.setup) (start (roles_of old.setup)) old.entries → HasStepped old new → AreSteps (rules_of new.setup) (start (roles_of new.setup)) new.entries
stepped_on old new are stepped = subst (λ (b : BookView). AreSteps (rules_of b.setup) (start (roles_of b.setup)) b.entries) (sym stepped.added) (steps_more (rules_of old.setup) (start (roles_of old.setup)) old.entries stepped.entry are stepped.step)

pub same_setup : (old new : BookView) → HasStepped old new → new.setup ≡ old.setup
same_setup old new stepped = ap (λ (b : BookView). b.setup) stepped.added

-- all of them are the book
pub copied : (book : BookView) (k : ℕ) → k ≡ length book.entries → first_of book k ≡ book
copied book k e = ap (λ (l : List Entry). record { setup = book.setup; entries = l }) (take_all book.entries k e)
