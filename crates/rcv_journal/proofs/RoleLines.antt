-- The lines of the roles, made one after another.
use Rattle.std.proofs.Common.{◌≡◌, ℕ, ◌<◌, ◌≤◌, ◌↔◌, Bool, true, false, ◌==◌, cond, Some, List, [], ◌∷◌, ◌++◌, length, get_or, refl, sym, ◌∙◌, ap, subst, ⊎_elim, arith, length-append}
use Rattle.std.specs.Prelude.{slice_get, IsTrue}
use Rattle.std.proofs.lemmas.Bool.{cases_lt}
use Rattle.std.proofs.lemmas.Bool.Decides.{nat_tests}
use Rattle.std.proofs.Math.ListN.{get_or-append}
use Rattle.std.proofs.Math.Seq.{get_or-append_seam}
use Rattle.std.proofs.lemmas.Option.{slice_get_within, slice_get-get_or, get_or_from_slice_get}
use Rattle.rcv_model.specs.Act.{IsDone}
use Rattle.rcv_model.specs.Journal.{Rules, State, numbers_at}
use Rattle.rcv_session.specs.Session.{SessionView, roles_of, rules_of}
use Rattle.rcv_journal.specs.declared.line.RoleLine.{RoleLine}
use Rattle.rcv_journal.specs.declared.line.RoleWord.{RoleWord}
use Rattle.rcv_journal.specs.declared.line.RoleWord.TheVariants.{Done, Limit, Waits}
use Rattle.rcv_journal.specs.JournalText.{HaveRoles}
use Rattle.rcv_journal.specs.Lines.{IsWordOf, IsLineOf, AreLinesOf}

-- the lines are those of the roles from 0 on
abbrev pub Each : Rules → State → List RoleLine → Type 0
Each rules s lines = (r : ℕ) (x : RoleLine) → slice_get lines r ≡ Some x → IsLineOf rules s r x

pub one_more_line : (rules : Rules) (s : State) (lines : List RoleLine) (x : RoleLine) (n : ℕ) → length lines ≡ n → Each rules s lines → IsLineOf rules s n x → Each rules s (lines ++ x ∷ [])
one_more_line rules s lines x n size each is r y at = ⊎_elim before last (cases_lt r (length lines))
  where
    y_is : get_or (lines ++ x ∷ []) r y ≡ y
    y_is = get_or_from_slice_get (lines ++ x ∷ []) r y y at

    before : r < length lines → IsLineOf rules s r y
    before lt = each r y (slice_get-get_or lines r y lt ∙ ap Some (sym (get_or-append lines (x ∷ []) y r lt) ∙ y_is))

    last : length lines ≤ r → IsLineOf rules s r y
    last le =
        let inside : r < length (lines ++ x ∷ []) = slice_get_within (lines ++ x ∷ []) r y at in
        let here : r ≡ length lines = omega (arith, inside, length-append lines (x ∷ [])) in
        let same : x ≡ y = sym (get_or-append_seam lines x [] y) ∙ ap (λ k. get_or (lines ++ x ∷ []) k y) (sym here) ∙ y_is in
        subst (λ k. IsLineOf rules s k y) (sym size ∙ sym here) (subst (IsLineOf rules s n) same is)

pub have_roles : (setup : SessionView) (s : State) (lines : List RoleLine) → AreLinesOf (rules_of setup) s lines → HaveRoles setup lines
have_roles setup s lines are k d lt =
    let line = are.each k (get_or lines k d) (slice_get-get_or lines k d lt) in
    subst (λ r. r < roles_of setup) (sym line.role) (subst (λ n. k < n) are.all lt)

-- the word that follows from whether the role is done, from its raw count and from the limit
abbrev pub word_from : Bool → ℕ → ℕ → RoleWord
word_from done raw limit = cond done Done (cond (raw == limit) Limit Waits)

pub is_word : (rules : Rules) (s : State) (r : ℕ) (done : Bool) (raw limit : ℕ) → limit ≡ rules.limit → raw ≡ (numbers_at s.roles r).raw → IsTrue done ↔ IsDone rules.net r s.kept → IsWordOf rules s r (word_from done raw limit)
is_word rules s r true raw limit at count told = told.0 refl
is_word rules s r false raw limit at count told = go (raw == limit) refl
  where
    not_done : IsDone rules.net r s.kept → ⊥
    not_done done = let wrong : false ≡ true = told.1 done in absurd (cc)

    go : (b : Bool) → (raw == limit) ≡ b → IsWordOf rules s r (cond b Limit Waits)
    go true e = let same : raw ≡ limit = grind (arith, nat_tests) in (not_done, sym count ∙ same ∙ at)
    go false e = (not_done, λ is. let same : raw ≡ limit = count ∙ is ∙ sym at in absurd (grind (arith, nat_tests)))
