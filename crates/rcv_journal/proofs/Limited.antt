-- The roles that the last line of a journal names: none if all roles are done, and some if one is at the limit.
use Rattle.std.proofs.Common.{◌≡◌, ◌∙◌, ◌<◌, ℕ, zero, suc, Bool, true, false, cond, List, [], ◌∷◌, Some, refl, sym, ap, subst}
use Rattle.std.specs.Prelude.{slice_get}
use Rattle.std.proofs.lemmas.Option.{none-some, same_Some, slice_get_within}
use Rattle.rcv_model.specs.Act.{IsDone}
use Rattle.rcv_model.specs.Journal.{Rules, State, numbers_at}
use Rattle.rcv_model.specs.Final.{AreDone, HasOneAtLimit}
use Rattle.rcv_model.proofs.Located.{item}
use Rattle.rcv_journal.specs.declared.line.RoleLine.{RoleLine}
use Rattle.rcv_journal.specs.declared.line.RoleWord.{RoleWord}
use Rattle.rcv_journal.specs.declared.line.RoleWord.TheVariants.{Done, Limit, Waits}
use Rattle.rcv_journal.specs.JournalText.{is_limit}
use Rattle.rcv_journal.specs.Lines.{IsWordOf, AreLinesOf, limited_in}

none_limited : (lines : List RoleLine) → ((q : ℕ) (line : RoleLine) → slice_get lines q ≡ Some line → is_limit line.word ≡ false) → limited_in lines ≡ []
none_limited [] none = refl
none_limited (line ∷ lines) none =
    ap (λ b. cond b (line.role ∷ limited_in lines) (limited_in lines)) (none 0 line refl) ∙ none_limited lines (λ q x at. none (suc q) x at)

some_limited : (lines : List RoleLine) (q : ℕ) (line : RoleLine) → slice_get lines q ≡ Some line → is_limit line.word ≡ true → limited_in lines ≡ [] → ⊥
some_limited [] q line at limit empty = absurd (none-some line at)
some_limited (x ∷ lines) zero line at limit empty =
    let here : is_limit x.word ≡ true = ap (λ (y : RoleLine). is_limit y.word) (same_Some x line at) ∙ limit in
    let some : x.role ∷ limited_in lines ≡ [] = sym (ap (λ b. cond b (x.role ∷ limited_in lines) (limited_in lines)) here) ∙ empty in
    cc
some_limited (x ∷ lines) (suc q) line at limit empty =
    go (is_limit x.word) (λ none. some_limited lines q line at limit none) empty
  where
    go : (b : Bool) → (limited_in lines ≡ [] → ⊥) → cond b (x.role ∷ limited_in lines) (limited_in lines) ≡ [] → ⊥
    go true some none = cc
    go false some none = some none

done_word : (rules : Rules) (s : State) (r : ℕ) (word : RoleWord) → IsDone rules.net r s.kept → IsWordOf rules s r word → is_limit word ≡ false
done_word rules s r Done done is = refl
done_word rules s r Limit done is = absurd (is.0 done)
done_word rules s r Waits done is = absurd (is.0 done)

limit_word : (rules : Rules) (s : State) (r : ℕ) (word : RoleWord) → (IsDone rules.net r s.kept → ⊥) → (numbers_at s.roles r).raw ≡ rules.limit → IsWordOf rules s r word → is_limit word ≡ true
limit_word rules s r Done not_done at is = absurd (not_done is)
limit_word rules s r Limit not_done at is = refl
limit_word rules s r Waits not_done at is = absurd (is.1 at)

module _ (rules : Rules) (s : State) (lines : List RoleLine) (are : AreLinesOf rules s lines) where
  pub all_done : AreDone rules s → limited_in lines ≡ []
  all_done done = none_limited lines (λ q line at. done_word rules s q line.word (done q (subst (λ n. q < n) are.all (slice_get_within lines q line at))) (are.each q line at).word)

  pub one_left : HasOneAtLimit rules s → limited_in lines ≡ [] → ⊥
  one_left one empty =
      let found = item lines one.0 (subst (λ n. one.0 < n) (sym are.all) one.1) in
      some_limited lines one.0 found.0 found.1 (limit_word rules s one.0 found.0.word one.2 one.3 (are.each one.0 found.0 found.1).word) empty
