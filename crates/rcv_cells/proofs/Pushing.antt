-- One entry after another goes into the book.
use Rattle.std.proofs.Common.{◌≡◌, ℕ, zero, suc, ◌+◌, ◌<◌, List, [], ◌∷◌, ◌++◌, length, take, drop, sym, ◌∙◌, ap, subst, arith, append_assoc}
use Rattle.std.specs.Prelude.{slice_index_or}
use Rattle.rcv_tree.specs.declared.entry.Entry.{Entry}
use Rattle.rcv_model.specs.Journal.{start, after, May, IsLegalFrom}
use Rattle.rcv_model.proofs.StableLines.{reading_join}
use Rattle.rcv_session.specs.Session.{roles_of, rules_of}
use Rattle.rcv_core.specs.Book.{BookView, state_of, with_more}

pub drop_at : (xs : List Entry) (k : ℕ) (x : Entry) → k < length xs → slice_index_or xs k x ≡ x → drop k xs ≡ x ∷ drop (suc k) xs
drop_at [] k x lt e = absurd (omega (arith, lt))
drop_at (y ∷ xs) zero x lt e = ap (λ z. z ∷ xs) e
drop_at (y ∷ xs) (suc k) x lt e = drop_at xs k x (omega (arith, lt)) e

take_at : (xs : List Entry) (k : ℕ) (x : Entry) → k < length xs → slice_index_or xs k x ≡ x → take (suc k) xs ≡ take k xs ++ x ∷ []
take_at [] k x lt e = absurd (omega (arith, lt))
take_at (y ∷ xs) zero x lt e = ap (λ z. z ∷ []) e
take_at (y ∷ xs) (suc k) x lt e = ap (λ l. y ∷ l) (take_at xs k x (omega (arith, lt)) e)

pub plus : (k : ℕ) → k + 1 ≡ suc k
plus k = omega arith

pub pushed : (old now new : BookView) (more : List Entry) (k : ℕ) (e : Entry) → k < length more → slice_index_or more k e ≡ e → (now ≡ with_more old (take k more)) × IsLegalFrom (rules_of now.setup) (state_of now) (drop k more) → new ≡ record { setup = now.setup; entries = now.entries ++ e ∷ [] } → (new ≡ with_more old (take (k + 1) more)) × IsLegalFrom (rules_of new.setup) (state_of new) (drop (k + 1) more)
pushed old now new more k e lt is so grown = (
  grown
      ∙ ap (λ (b : BookView). record { setup = b.setup; entries = b.entries ++ e ∷ [] }) so.0
      ∙ ap (λ (l : List Entry). record { setup = old.setup; entries = l }) (append_assoc old.entries (take k more) (e ∷ []) ∙ ap (λ l. old.entries ++ l) (sym (take_at more k e lt is) ∙ ap (λ n. take n more) (sym (plus k)))),
  subst (λ (b : BookView). IsLegalFrom (rules_of b.setup) (state_of b) (drop (k + 1) more)) (sym grown)
      (subst (λ n. IsLegalFrom (rules_of now.setup) (state_of (record { setup = now.setup; entries = now.entries ++ e ∷ [] })) (drop n more)) (sym (plus k))
      (subst (λ s. IsLegalFrom (rules_of now.setup) s (drop (suc k) more)) (sym (reading_join (rules_of now.setup) (start (roles_of now.setup)) now.entries (e ∷ []))) both.1)),
)
  where
    both : May (rules_of now.setup) (state_of now) e × IsLegalFrom (rules_of now.setup) (after (rules_of now.setup) (state_of now) e) (drop (suc k) more)
    both = subst (IsLegalFrom (rules_of now.setup) (state_of now)) (drop_at more k e lt is) so.1
