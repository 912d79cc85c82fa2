-- The closing lines: one at most is the first wrong one, and how they are compared.
use Rattle.std.proofs.Common.{◌≡◌, ℕ, ◌<◌, ◌↔◌, suc, Bool, true, false, cond, Some, List, [], ◌∷◌, ◌++◌, take, refl, sym, ◌∙◌, ap, subst, ⊎_elim, arith}
use Rattle.std.specs.Prelude.{slice_get, length}
use Rattle.std.proofs.lemmas.Bool.{cases_lt}
use Rattle.std.proofs.lemmas.Option.{same_Some}
use Rattle.rcv_model.specs.Journal.{Rules, State}
use Rattle.rcv_model.specs.Final.{IsFinal, IsCompleted, IsLimited, AreDone, HasOneAtLimit}
use Rattle.rcv_model.proofs.Located.{item}
use Rattle.rcv_journal.specs.declared.line.RoleLine.{RoleLine}
use Rattle.rcv_journal.specs.declared.line.RoleWord.{RoleWord}
use Rattle.rcv_journal.specs.JournalText.{is_limit}
use Rattle.rcv_journal.specs.Lines.{AreLinesOf, limited_in}
use Rattle.rcv_journal.proofs.Limited.{all_done, one_left}
use Rattle.rcv_journal.proofs.OneText.{same_line, same_lines}
use Rattle.rcv_session.specs.Session.{rules_of}
use Rattle.rcv_core.specs.Book.{BookView, state_of, HasMore}
use Rattle.rcv_judge.proofs.Taking.{next_taken}
use Rattle.rcv_judge.specs.Closing.{Closes, IsFirstWrongClosing, IsFirstOther}
use Rattle.rcv_judge.specs.Laws.{OneClosingIsFirstWrong}

-- ---- one at most

not_before : (rules : Rules) (s : State) (roles : List RoleLine) (limited : List ℕ) (k l : ℕ) → IsFirstWrongClosing rules s roles limited k → IsFirstWrongClosing rules s roles limited l → k < l → ⊥
not_before rules s roles limited k l a b lt = a.role (let le = b.within in omega (arith, lt, le)) (b.before k lt)

pub one_closing : OneClosingIsFirstWrong
one_closing rules s roles limited k l = record {
  same = λ a b. ⊎_elim
      (λ lt. absurd (not_before rules s roles limited k l a b lt))
      (λ le. ⊎_elim (λ lt. absurd (not_before rules s roles limited l k b a lt)) (λ ge. omega (arith, le, ge)) (cases_lt l k))
      (cases_lt k l);
  none = λ closes a. ⊎_elim
      (λ lt. let found = item roles k (subst (λ n. k < n) (sym closes.lines.all) lt) in a.role lt (found.0, found.1, closes.lines.each k found.0 found.1))
      (λ ge. let le = a.within in a.last (omega (arith, ge, le)) closes)
      (cases_lt k rules.roles);
}

-- ---- the roles at the limit

limited_append : (xs ys : List RoleLine) → limited_in (xs ++ ys) ≡ limited_in xs ++ limited_in ys
limited_append [] ys = refl
limited_append (x ∷ xs) ys = go (is_limit x.word) (limited_append xs ys)
  where
    go : (b : Bool) → limited_in (xs ++ ys) ≡ limited_in xs ++ limited_in ys → cond b (x.role ∷ limited_in (xs ++ ys)) (limited_in (xs ++ ys)) ≡ cond b (x.role ∷ limited_in xs) (limited_in xs) ++ limited_in ys
    go true e = ap (λ rs. x.role ∷ rs) e
    go false e = e

pub limited_alone : (line : RoleLine) (word : RoleWord) → line.word ≡ word → limited_in (line ∷ []) ≡ cond (is_limit word) (line.role ∷ []) []
limited_alone line word e = ap (λ w. cond (is_limit w) (line.role ∷ []) []) e

-- one line more
pub limited_behind : (lines : List RoleLine) (k : ℕ) (line : RoleLine) → slice_get lines k ≡ Some line → limited_in (take (suc k) lines) ≡ limited_in (take k lines) ++ limited_in (line ∷ [])
limited_behind lines k line at = ap limited_in (next_taken lines k line at) ∙ limited_append (take k lines) (line ∷ [])

-- ---- what the last line says

-- lists with the same elements in the same places
same_items : (xs ys : List RoleLine) → length xs ≡ length ys → ((r : ℕ) → r < length ys → slice_get xs r ≡ slice_get ys r) → xs ≡ ys
same_items [] [] size each = refl
same_items [] (y ∷ ys) size each = absurd (omega (arith, size))
same_items (x ∷ xs) [] size each = absurd (omega (arith, size))
same_items (x ∷ xs) (y ∷ ys) size each =
    let one : x ≡ y = same_Some x y (each 0 (omega arith)) in
    let more : xs ≡ ys = same_items xs ys (omega (arith, size)) (λ r lt. each (suc r) (omega (arith, lt))) in
    ap (λ z. z ∷ xs) one ∙ ap (λ zs. y ∷ zs) more

module _ (rules : Rules) (s : State) (lines found : List RoleLine) (limited : List ℕ) (are : AreLinesOf rules s lines) where
  -- a line that is another one, and the lines before it
  pub first_wrong : (k : ℕ) → IsFirstOther lines found k → IsFirstWrongClosing rules s found limited k
  first_wrong k other = record {
    within = let lt = other.within in let size = are.all in omega (arith, lt, size);
    before = λ r lt.
        let line = item lines r (let in_lines = other.within in omega (arith, lt, in_lines)) in
        (line.0, other.before r lt ∙ line.1, are.each r line.0 line.1);
    role = λ lt has.
        let line = item lines k other.within in
        other.other (has.1 ∙ ap Some (same_line rules s k has.0 line.0 has.2 (are.each k line.0 line.1)) ∙ sym line.1);
    last = λ end closes. let lt = other.within in let size = are.all in absurd (omega (arith, lt, size, end));
  }

  -- the last line, where all lines of roles are found
  pub last_wrong : (k : ℕ) → k ≡ length lines → ((r : ℕ) → r < length lines → slice_get found r ≡ slice_get lines r) → (Closes rules s found limited → ⊥) → IsFirstWrongClosing rules s found limited k
  last_wrong k end each wrong = record {
    within = let size = are.all in omega (arith, end, size);
    before = λ r lt.
        let in_lines : r < length lines = omega (arith, lt, end) in
        let line = item lines r in_lines in
        (line.0, each r in_lines ∙ line.1, are.each r line.0 line.1);
    role = λ lt has. let size = are.all in absurd (omega (arith, lt, end, size));
    last = λ at closes. wrong closes;
  }

  pub other_length : (length found ≡ length lines → ⊥) → Closes rules s found limited → ⊥
  other_length other closes = other (closes.lines.all ∙ sym are.all)

  pub other_names : (limited ≡ limited_in lines → ⊥) → Closes rules s found limited → ⊥
  other_names other closes = other (closes.named ∙ ap limited_in (same_lines rules s found lines closes.lines are))

  closed : length found ≡ length lines → ((r : ℕ) → r < length lines → slice_get found r ≡ slice_get lines r) → limited ≡ limited_in lines → IsFinal rules s → (limited_in lines ≡ []) ↔ AreDone rules s → Closes rules s found limited
  closed size each names final completed =
      let same : found ≡ lines = same_items found lines size each in
      record {
        final = final;
        lines = subst (AreLinesOf rules s) (sym same) are;
        named = names ∙ ap limited_in (sym same);
        completed = (λ empty. completed.0 (sym names ∙ empty), λ done. names ∙ completed.1 done);
      }

  pub closed_completed : length found ≡ length lines → ((r : ℕ) → r < length lines → slice_get found r ≡ slice_get lines r) → limited ≡ limited_in lines → IsCompleted rules s → Closes rules s found limited
  closed_completed size each names end = closed size each names end.0 ((λ empty. end.1), all_done rules s lines are)

  pub closed_limited : length found ≡ length lines → ((r : ℕ) → r < length lines → slice_get found r ≡ slice_get lines r) → limited ≡ limited_in lines → IsLimited rules s × HasOneAtLimit rules s → Closes rules s found limited
  closed_limited size each names end = closed size each names end.0.0 ((λ empty. absurd (one_left rules s lines are end.1 empty)), λ done. absurd (end.0.1 done))

-- something is left to do
pub not_ended : (book : BookView) (found : List RoleLine) (limited : List ℕ) → HasMore book → Closes (rules_of book.setup) (state_of book) found limited → ⊥
not_ended book found limited more closes = ⊎_elim
    (λ crashed. closes.final.none_crashed crashed.0 crashed.2)
    (λ later. ⊎_elim (λ due. closes.final.none_due due.0 due.1 due.2) (λ acts. closes.final.none_acts acts.0 acts.1 acts.2) later)
    more
