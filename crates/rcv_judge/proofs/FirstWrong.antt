-- A legal journal of the first entries, one more of them, and the first that may not come: at most one is that.
use Rattle.std.proofs.Common.{◌≡◌, ℕ, ◌+◌, ◌<◌, zero, suc, Some, List, [], ◌∷◌, ◌++◌, take, sym, ◌∙◌, ap, subst, ⊎_elim, add-one, arith}
use Rattle.std.specs.Prelude.{slice_get}
use Rattle.std.proofs.lemmas.Bool.{cases_lt}
use Rattle.std.proofs.lemmas.List.{take-take}
use Rattle.std.proofs.lemmas.Option.{none-some, same_Some, slice_get_within}
use Rattle.rcv_tree.specs.declared.entry.Entry.{Entry}
use Rattle.rcv_model.specs.Journal.{Rules, State, start, after, reading, reading_from, May, IsLegalFrom, IsLegal}
use Rattle.rcv_model.proofs.Located.{item}
use Rattle.rcv_session.specs.Session.{SessionView, roles_of, rules_of}
use Rattle.rcv_core.specs.Book.{BookView, state_of, with_entry}
use Rattle.rcv_judge.specs.Judged.{IsFirstWrong}
use Rattle.rcv_judge.specs.Laws.{OneEntryIsFirstWrong}
use Rattle.rcv_judge.proofs.Taking.{next_taken}

-- the book of the first so many entries, which are legal
pub record HasRead (setup : SessionView) (entries : List Entry) (k : ℕ) (book : BookView) : Type 0 where
  pub book_is : book ≡ record { setup = setup; entries = take k entries }
  pub legal : IsLegal (rules_of setup) (take k entries)

legal_more : (rules : Rules) (s : State) (front : List Entry) (e : Entry) → IsLegalFrom rules s front → May rules (reading_from rules s front) e → IsLegalFrom rules s (front ++ e ∷ [])
legal_more rules s [] e legal may = (may, tt)
legal_more rules s (d ∷ front) e legal may = (legal.0, legal_more rules (after rules s d) front e legal.1 may)

module _ (setup : SessionView) (entries : List Entry) (k : ℕ) (e : Entry) (old : BookView) (read : HasRead setup entries k old) (at : slice_get entries k ≡ Some e) where
  longer : take k entries ++ e ∷ [] ≡ take (k + 1) entries
  longer = sym (next_taken entries k e at) ∙ ap (λ n. take n entries) (sym (add-one k))

  pub read_more : (new : BookView) → May (rules_of old.setup) (state_of old) e → new ≡ with_entry old e → HasRead setup entries (k + 1) new
  read_more new may grown = record {
    book_is = grown ∙ ap (λ (b : BookView). with_entry b e) read.book_is ∙ ap (λ (es : List Entry). record { setup = setup; entries = es }) longer;
    legal = subst (IsLegal (rules_of setup)) longer (legal_more (rules_of setup) (start (roles_of setup)) (take k entries) e read.legal (subst (λ (b : BookView). May (rules_of b.setup) (state_of b) e) read.book_is may));
  }

  pub first_wrong : (May (rules_of old.setup) (state_of old) e → ⊥) → IsFirstWrong (rules_of setup) entries k
  first_wrong wrong = record {
    inside = slice_get_within entries k e at;
    before = read.legal;
    wrong = λ d there may. wrong (subst (λ (b : BookView). May (rules_of b.setup) (state_of b) e) (sym read.book_is) (subst (λ x. May (rules_of setup) (reading (rules_of setup) (take k entries)) x) (same_Some d e (sym there ∙ at)) may));
  }

-- ---- one entry at most

-- in a legal journal, the entry with this number may come
may_at : (rules : Rules) (s : State) (entries : List Entry) (k : ℕ) (e : Entry) → IsLegalFrom rules s entries → slice_get entries k ≡ Some e → May rules (reading_from rules s (take k entries)) e
may_at rules s [] k e legal at = absurd (none-some e at)
may_at rules s (d ∷ entries) zero e legal at = subst (May rules s) (same_Some d e at) legal.0
may_at rules s (d ∷ entries) (suc k) e legal at = may_at rules (after rules s d) entries k e legal.1 at

-- an entry that is among the first ones
get_before : (entries : List Entry) (k l : ℕ) (e : Entry) → k < l → slice_get entries k ≡ Some e → slice_get (take l entries) k ≡ Some e
get_before [] k l e lt at = absurd (none-some e at)
get_before (d ∷ entries) k zero e lt at = absurd (omega (arith, lt))
get_before (d ∷ entries) zero (suc l) e lt at = at
get_before (d ∷ entries) (suc k) (suc l) e lt at = get_before entries k l e (omega (arith, lt)) at

not_before : (rules : Rules) (entries : List Entry) (k l : ℕ) → IsFirstWrong rules entries k → IsLegal rules (take l entries) → k < l → ⊥
not_before rules entries k l first legal lt =
    let found = item entries k first.inside in
    let may = may_at rules (start rules.roles) (take l entries) k found.0 legal (get_before entries k l found.0 lt found.1) in
    first.wrong found.0 found.1 (subst (λ es. May rules (reading rules es) found.0) (take-take k l entries (omega (arith, lt))) may)

pub one_first : OneEntryIsFirstWrong
one_first rules entries k l = record {
  same = λ a b. ⊎_elim
      (λ lt. absurd (not_before rules entries k l a b.before lt))
      (λ le. ⊎_elim (λ lt. absurd (not_before rules entries l k b a.before lt)) (λ ge. omega (arith, le, ge)) (cases_lt l k))
      (cases_lt k l);
  none = λ legal a.
      let found = item entries k a.inside in
      a.wrong found.0 found.1 (may_at rules (start rules.roles) entries k found.0 legal found.1);
}
