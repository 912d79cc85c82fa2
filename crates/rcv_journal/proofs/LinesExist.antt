-- Each state has the lines of its roles.
use Rattle.std.proofs.Common.{◌≡◌, ℕ, zero, suc, ◌+◌, Some, List, [], ◌∷◌, length, refl, ◌∙◌, ap, subst, inl, inr, ⊎_elim, ◌⊎◌, arith}
use Rattle.std.specs.Prelude.{slice_get}
use Rattle.std.proofs.lemmas.Bool.{cases_eq}
use Rattle.rcv_model.specs.Next.{IsProper, AreNext}
use Rattle.rcv_model.specs.Run.{acts, place_of}
use Rattle.rcv_model.specs.Act.{IsDone}
use Rattle.rcv_model.specs.Journal.{Rules, State, numbers_at}
use Rattle.rcv_model.proofs.NextLists.{lists_exist}
use Rattle.rcv_journal.specs.declared.line.RoleLine.{RoleLine}
use Rattle.rcv_journal.specs.declared.line.RoleWord.{RoleWord}
use Rattle.rcv_journal.specs.declared.line.RoleWord.TheVariants.{Done, Limit, Waits}
use Rattle.rcv_journal.specs.Lines.{IsWordOf, IsLineOf, AreLinesOf}

-- ---- the word of a role

pub is_done_or_not : (rules : Rules) (s : State) (r : ℕ) → IsProper rules.net rules.roles → IsDone rules.net r s.kept ⊎ (IsDone rules.net r s.kept → ⊥)
is_done_or_not rules s r lawful = go (lists_exist rules.net rules.roles r (place_of 0 (acts r s.kept)) lawful)
  where
    go : (zs : List ℕ) × AreNext rules.net r (place_of 0 (acts r s.kept)) zs → IsDone rules.net r s.kept ⊎ (IsDone rules.net r s.kept → ⊥)
    go ([], next) = inl (λ z is_next. next.complete z is_next)
    go (z ∷ zs, next) = inr (λ done. done z (next.sound z (inl refl)))

pub role_word : (rules : Rules) (s : State) (r : ℕ) → IsProper rules.net rules.roles → (word : RoleWord) × IsWordOf rules s r word
role_word rules s r lawful =
    ⊎_elim (λ done. (Done, done)) (λ more. ⊎_elim (λ at. (Limit, (more, at))) (λ below. (Waits, (more, below))) (cases_eq (numbers_at s.roles r).raw rules.limit)) (is_done_or_not rules s r lawful)

-- ---- the lines of the roles

abbrev pub line_at : (rules : Rules) → State → IsProper rules.net rules.roles → ℕ → RoleLine
line_at rules s lawful r = record { role = r; kept = length (acts r s.kept); raw = (numbers_at s.roles r).raw; word = (role_word rules s r lawful).0 }

-- the lines of so many roles, from r on
abbrev pub lines_from : (rules : Rules) → State → IsProper rules.net rules.roles → ℕ → ℕ → List RoleLine
lines_from rules s lawful r zero = []
lines_from rules s lawful r (suc n) = line_at rules s lawful r ∷ lines_from rules s lawful (suc r) n

as_many : (rules : Rules) (s : State) (lawful : IsProper rules.net rules.roles) (r n : ℕ) → length (lines_from rules s lawful r n) ≡ n
as_many rules s lawful r zero = refl
as_many rules s lawful r (suc n) = ap suc (as_many rules s lawful (suc r) n)

same_some : {A : Type 0} (a b : A) → Some a ≡ Some b → a ≡ b
same_some a b e = cc

each_line : (rules : Rules) (s : State) (lawful : IsProper rules.net rules.roles) (r n i : ℕ) (x : RoleLine) → slice_get (lines_from rules s lawful r n) i ≡ Some x → line_at rules s lawful (r + i) ≡ x
each_line rules s lawful r zero i x at = absurd (cc)
each_line rules s lawful r (suc n) zero x at = ap (line_at rules s lawful) (omega arith) ∙ same_some (line_at rules s lawful r) x at
each_line rules s lawful r (suc n) (suc i) x at = ap (line_at rules s lawful) (omega arith) ∙ each_line rules s lawful (suc r) n i x at

pub are_lines : (rules : Rules) (s : State) (lawful : IsProper rules.net rules.roles) → AreLinesOf rules s (lines_from rules s lawful 0 rules.roles)
are_lines rules s lawful = record {
  all = as_many rules s lawful 0 rules.roles;
  each = λ r line at.
      let is = each_line rules s lawful 0 rules.roles r line at in
      subst (IsLineOf rules s r) (ap (line_at rules s lawful) (omega arith) ∙ is) (record { role = refl; kept = refl; raw = refl; word = (role_word rules s r lawful).1 });
}
