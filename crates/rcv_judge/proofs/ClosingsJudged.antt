-- Whether a journal closes right is decided.
use Rattle.std.proofs.Common.{◌≡◌, ℕ, ◌↔◌, List, [], ◌∷◌, length, refl, sym, ◌∙◌, ap, subst, inl, inr, ⊎_elim}
use Rattle.std.proofs.lemmas.Bool.{cases_eq}
use Rattle.rcv_model.specs.Next.{IsProper, LanesEnd}
use Rattle.rcv_model.specs.Act.{IsDone}
use Rattle.rcv_model.specs.Journal.{Rules, State, reading}
use Rattle.rcv_model.specs.Final.{IsFinal, AreDone}
use Rattle.rcv_model.proofs.Decided.{same_list}
use Rattle.rcv_model.proofs.Numbers.{bounded}
use Rattle.rcv_model.proofs.OneThread.{one_step}
use Rattle.rcv_model.proofs.Threads.{least, step_or_final}
use Rattle.rcv_journal.specs.declared.line.RoleLine.{RoleLine}
use Rattle.rcv_journal.specs.declared.line.RoleWord.{RoleWord}
use Rattle.rcv_journal.specs.declared.line.RoleWord.TheVariants.{Done, Limit, Waits}
use Rattle.rcv_journal.specs.Lines.{AreLinesOf, limited_in}
use Rattle.rcv_journal.proofs.OneText.{same_lines}
use Rattle.rcv_journal.proofs.LinesExist.{is_done_or_not, lines_from, are_lines}
use Rattle.rcv_judge.specs.Closing.{Closes}
use Rattle.rcv_judge.specs.Laws.{ClosingsAreJudged}
use Rattle.rcv_judge.proofs.Deciding.{OrNot, both}

-- ---- two lists of lines are one, or they aren't

same_word : (a b : RoleWord) → OrNot (a ≡ b)
same_word Done Done = inl refl
same_word Done Limit = inr (λ e. cc)
same_word Done Waits = inr (λ e. cc)
same_word Limit Done = inr (λ e. cc)
same_word Limit Limit = inl refl
same_word Limit Waits = inr (λ e. cc)
same_word Waits Done = inr (λ e. cc)
same_word Waits Limit = inr (λ e. cc)
same_word Waits Waits = inl refl

abbrev AreSame : RoleLine → RoleLine → Type 0
AreSame a b = (a.role ≡ b.role) × ((a.kept ≡ b.kept) × ((a.raw ≡ b.raw) × (a.word ≡ b.word)))

one_line : (a b : RoleLine) → AreSame a b → a ≡ b
one_line a b (role, (kept, (raw, word))) i = record { role = role i; kept = kept i; raw = raw i; word = word i }

same_line : (a b : RoleLine) → OrNot (a ≡ b)
same_line a b = ⊎_elim (λ s. inl (one_line a b s)) (λ never. inr (λ same. never (subst (AreSame a) same (refl, (refl, (refl, refl))))))
    (both (cases_eq a.role b.role) (both (cases_eq a.kept b.kept) (both (cases_eq a.raw b.raw) (same_word a.word b.word))))

same_roles : (xs ys : List RoleLine) → OrNot (xs ≡ ys)
same_roles [] [] = inl refl
same_roles [] (y ∷ ys) = inr (λ e. cc)
same_roles (x ∷ xs) [] = inr (λ e. cc)
same_roles (x ∷ xs) (y ∷ ys) = go (same_line x y) (same_roles xs ys)
  where
    go : OrNot (x ≡ y) → OrNot (xs ≡ ys) → OrNot (x ∷ xs ≡ y ∷ ys)
    go (inl e) (inl f) = inl (ap (λ z. z ∷ xs) e ∙ ap (λ l. y ∷ l) f)
    go (inl e) (inr n) = inr (λ f. n (cc))
    go (inr n) d = inr (λ f. n (cc))

-- ---- part by part

module _ (rules : Rules) (s : State) (proper : IsProper rules.net rules.roles) (ends : LanesEnd rules.net) (size : length s.roles ≡ rules.roles) where
  is_final : OrNot (IsFinal rules s)
  is_final = ⊎_elim (λ step. inr (λ final. (one_step rules s step.0 step.0).none final step.1)) (λ final. inl final) (step_or_final rules proper ends s size)

  are_done : OrNot (AreDone rules s)
  are_done = ⊎_elim
      (λ left. inr (λ done. left.2.0 (done left.0 left.1)))
      (λ none. inl (λ r lt. ⊎_elim (λ done. done) (λ left. absurd (none r lt left)) (is_done_or_not rules s r proper)))
      (least (λ r. IsDone rules.net r s.kept → ⊥) is_left rules.roles)
    where
      is_left : (r : ℕ) → OrNot (IsDone rules.net r s.kept → ⊥)
      is_left r = ⊎_elim (λ done. inr (λ left. left done)) (λ left. inl left) (is_done_or_not rules s r proper)

  are_lines_or_not : (roles : List RoleLine) → OrNot (AreLinesOf rules s roles)
  are_lines_or_not roles = ⊎_elim
      (λ same. inl (subst (AreLinesOf rules s) (sym same) (are_lines rules s proper)))
      (λ other. inr (λ are. other (same_lines rules s roles (lines_from rules s proper 0 rules.roles) are (are_lines rules s proper))))
      (same_roles roles (lines_from rules s proper 0 rules.roles))

  -- there are none exactly where all are done
  says_completed : (limited : List ℕ) → OrNot ((limited ≡ []) ↔ AreDone rules s)
  says_completed limited = go (same_list limited []) are_done
    where
      go : OrNot (limited ≡ []) → OrNot (AreDone rules s) → OrNot ((limited ≡ []) ↔ AreDone rules s)
      go (inl none) (inl done) = inl ((λ e. done), (λ d. none))
      go (inl none) (inr left) = inr (λ is. left (is.0 none))
      go (inr some) (inl done) = inr (λ is. some (is.1 done))
      go (inr some) (inr left) = inl ((λ e. absurd (some e)), (λ d. absurd (left d)))

  closes : (roles : List RoleLine) (limited : List ℕ) → OrNot (Closes rules s roles limited)
  closes roles limited = ⊎_elim
      (λ are. inl (record { final = are.0; lines = are.1.0; named = are.1.1.0; completed = are.1.1.1 }))
      (λ never. inr (λ c. never (c.final, (c.lines, (c.named, c.completed)))))
      (both is_final (both (are_lines_or_not roles) (both (same_list limited (limited_in roles)) (says_completed limited))))

pub closings_judged : ClosingsAreJudged
closings_judged rules entries roles limited proper ends legal = closes rules (reading rules entries) proper ends (bounded rules entries legal).numbers roles limited
