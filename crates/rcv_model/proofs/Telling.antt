-- What a recovery's line says is what it does: as many events are undone, and each concerned role keeps as many.
use Rattle.std.proofs.Common.{◌≡◌, ℕ, suc, ◌+◌, Bool, true, false, List, [], ◌∷◌, ◌++◌, length, refl, sym, ◌∙◌, ap, ◌⊎◌, inl, inr, arith}
use Rattle.std.specs.Prelude.{if◌then◌else◌}
use Rattle.std.proofs.lemmas.Bool.{cases_Bool}
use Rattle.rcv_tree.specs.declared.event.Event.{Event}
use Rattle.rcv_tree.specs.declared.role.RoleSet.{RoleSet}
use Rattle.rcv_tree.specs.declared.entry.Entry.{Entry}
use Rattle.rcv_tree.specs.declared.entry.Entry.TheVariants.{Recover}
use Rattle.rcv_model.specs.Run.{acts}
use Rattle.rcv_model.specs.Undo.{picked}
use Rattle.rcv_model.specs.UndoLaws.{left_out, TellsRight}
use Rattle.rcv_model.specs.Journal.{Rules, State, start, kept_by, after, reading_from, reading, May, IsLegalFrom, IsLegal}
use Rattle.rcv_model.proofs.Recoveries.{undo_in_journal}
use Rattle.rcv_model.proofs.StableLines.{reading_join}

-- each position is in the set or isn't
in_or_out : (has : ℕ → Bool) (h : List Event) → length (picked has h) + left_out has h ≡ length h
in_or_out has [] = refl
in_or_out has (e ∷ h) = go (cases_Bool (has 0)) (in_or_out (λ i. has (suc i)) h)
  where
    go : (has 0 ≡ true) ⊎ (has 0 ≡ false) → length (picked (λ i. has (suc i)) h) + left_out (λ i. has (suc i)) h ≡ length h → length (picked has (e ∷ h)) + left_out has (e ∷ h) ≡ suc (length h)
    go (inl t) ih =
        let a : length (picked has (e ∷ h)) ≡ suc (length (picked (λ i. has (suc i)) h)) = ap (λ b. length (if b then e ∷ picked (λ i. has (suc i)) h else picked (λ i. has (suc i)) h)) t in
        let b : left_out has (e ∷ h) ≡ left_out (λ i. has (suc i)) h = ap (λ b. if b then left_out (λ i. has (suc i)) h else suc (left_out (λ i. has (suc i)) h)) t in
        omega arith
    go (inr t) ih =
        let a : length (picked has (e ∷ h)) ≡ length (picked (λ i. has (suc i)) h) = ap (λ b. length (if b then e ∷ picked (λ i. has (suc i)) h else picked (λ i. has (suc i)) h)) t in
        let b : left_out has (e ∷ h) ≡ suc (left_out (λ i. has (suc i)) h) = ap (λ b. if b then left_out (λ i. has (suc i)) h else suc (left_out (λ i. has (suc i)) h)) t in
        omega arith

-- an entry of a legal journal may come where it stands
pub may_at : (rules : Rules) (s : State) (front back : List Entry) (e : Entry) → IsLegalFrom rules s (front ++ e ∷ back) → May rules (reading_from rules s front) e
may_at rules s [] back e legal = legal.0
may_at rules s (x ∷ front) back e legal = may_at rules (after rules s x) front back e legal.1

pub tells_right : (rules : Rules) (front back : List Entry) (p : ℕ) (concerned : RoleSet) (kept : List ℕ) (undone : ℕ) → IsLegal rules (front ++ Recover p concerned kept undone ∷ back) → TellsRight rules (reading rules front) (reading rules (front ++ Recover p concerned kept undone ∷ [])) p concerned kept undone
tells_right rules front back p concerned kept undone legal =
    let u = undo_in_journal rules front back p concerned kept undone legal in
    let may = may_at rules (start rules.roles) front back (Recover p concerned kept undone) legal in
    let same : (reading rules (front ++ Recover p concerned kept undone ∷ [])).kept ≡ kept_by rules (reading rules front) p = ap (λ (s : State). s.kept) (reading_join rules (start rules.roles) front (Recover p concerned kept undone ∷ [])) in
    let all = in_or_out u.0 (reading rules front).kept in
    let few : length (kept_by rules (reading rules front) p) ≡ length (picked u.0 (reading rules front).kept) = ap (λ (l : List Event). length l) (sym same ∙ u.2) in
    let told = may.undone in
    record {
      has = u.0;
      rest = record { exact = u.1; left = u.2 };
      number = omega arith;
      counts = λ q lt t. may.counts q lt ∙ ap (λ b. if b then length (acts q (kept_by rules (reading rules front) p)) else 0) t ∙ ap (λ (l : List Event). length (acts q l)) (sym same);
    }
