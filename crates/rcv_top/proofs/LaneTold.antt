-- What the table says of the failure in the worked session with lanes is what its recovery does: asked with the first lost
-- point of each failed role, b of A and none of B, it names A, B and C, and neither D nor anybody else.
use Rattle.std.proofs.Common.{◌≡◌, ℕ, zero, suc, ◌<◌, true, false, List, [], ◌∷◌, refl, ◌⊎◌, inl, inr, ⊎_elim, arith}
use Rattle.std.specs.Prelude.{◌↔◌, if◌then◌else◌}
use Rattle.rcv_tree.specs.Bits.{has_bit}
use Rattle.rcv_model.specs.Net.{IsIn}
use Rattle.rcv_model.specs.Table.{IsConcerned, start_of}
use Rattle.rcv_model.specs.Journal.{durable, group_of, IsConcernedIn}
use Rattle.rcv_model.proofs.Journals.{below_8}
use Rattle.rcv_tables.specs.Told.{start_at, IsConcernedBelow, AreConcernedBy}
use Rattle.rcv_tables.specs.Laws.{number_of, IsFailure, TellsRecovery}
use Rattle.rcv_tables.proofs.Foretelling.{tables_tell_recoveries}
use Rattle.rcv_parallel.proofs.LaneSession.{net, text_proper, rules, s11}
use Rattle.rcv_parallel.proofs.LaneLaws.{run}
use Rattle.rcv_parallel.proofs.LaneTable.{marked_where, c_row}

-- A's first lost event is at b; B has saved all that it did
abbrev starts : List ℕ
starts = 2 ∷ 0 ∷ 0 ∷ 0 ∷ 0 ∷ 0 ∷ 0 ∷ 0 ∷ []

-- the host is A and B
failed : (q : ℕ) → q < 8 → (has_bit 3 q ≡ true) ↔ IsIn q (group_of rules 1)
failed = below_8 (λ q. (has_bit 3 q ≡ true) ↔ IsIn q (group_of rules 1)) (λ t. inr (inl refl), λ i. refl) (λ t. inl refl, λ i. refl) (other 2 refl (omega arith)) (other 3 refl (omega arith)) (other 4 refl (omega arith)) (other 5 refl (omega arith)) (other 6 refl (omega arith)) (other 7 refl (omega arith))
  where
    other : (q : ℕ) → has_bit 3 q ≡ false → 1 < q → (has_bit 3 q ≡ true) ↔ IsIn q (group_of rules 1)
    other q f lt = (λ t. absurd (cc), λ i. absurd (among i))
      where
        among : IsIn q (1 ∷ 0 ∷ 1 ∷ []) → ⊥
        among (inl e) = omega (arith, e, lt)
        among (inr (inl e)) = omega (arith, e, lt)
        among (inr (inr (inl e))) = omega (arith, e, lt)
        among (inr (inr (inr n))) = n

fails : IsFailure rules s11 1 3 starts
fails = record {
  proper = text_proper;
  run = run;
  few = λ q i. few q i;
  group = failed;
  starts_are = below_8 (λ q. start_at starts q ≡ (if has_bit 3 q then number_of (start_of (durable rules s11) s11.kept q) else 0)) refl refl refl refl refl refl refl refl;
}
  where
    few : (q : ℕ) → IsIn q (1 ∷ 0 ∷ 1 ∷ []) → q < 8
    few q (inl e) = omega (arith, e)
    few q (inr (inl e)) = omega (arith, e)
    few q (inr (inr (inl e))) = omega (arith, e)
    few q (inr (inr (inr n))) = absurd n

pub told : TellsRecovery rules s11 1 3 starts
told = tables_tell_recoveries rules s11 1 3 starts fails

-- the starts concern C besides, and nobody else
nobody_else : (q : ℕ) → 2 < q → IsConcernedBelow net starts 8 q → ⊥
nobody_else q lt (zero, low, some, c) = by_a c
  where
    at_b : IsIn q (1 ∷ 0 ∷ []) → ⊥
    at_b (inl e) = omega (arith, e, lt)
    at_b (inr (inl e)) = omega (arith, e, lt)
    at_b (inr (inr n)) = n

    at_e : IsIn q (2 ∷ 1 ∷ 0 ∷ []) → ⊥
    at_e (inl e) = omega (arith, e, lt)
    at_e (inr i) = at_b i

    by_a : IsConcerned net 0 2 q → ⊥
    by_a (z, inl e) = let f = e.0 in omega (arith, lt, f)
    by_a (z, inr m) = ⊎_elim (λ a. at_b a.1) (λ a. at_e a.2) (marked_where q z m.1)
nobody_else q lt (suc p, low, some, c) = some (none p low)
  where
    none : (p : ℕ) → suc p < 8 → start_at starts (suc p) ≡ 0
    none zero l = refl
    none (suc zero) l = refl
    none (suc (suc zero)) l = refl
    none (suc (suc (suc zero))) l = refl
    none (suc (suc (suc (suc zero)))) l = refl
    none (suc (suc (suc (suc (suc zero))))) l = refl
    none (suc (suc (suc (suc (suc (suc zero)))))) l = refl
    none (suc (suc (suc (suc (suc (suc (suc p))))))) l = absurd (omega arith)

answered : AreConcernedBy net 3 starts 7
answered = below_8 (λ q. (has_bit 7 q ≡ true) ↔ ((has_bit 3 q ≡ true) ⊎ IsConcernedBelow net starts 8 q))
    (λ t. inl refl, λ d. refl)
    (λ t. inl refl, λ d. refl)
    (λ t. inr (0, omega arith, (λ e. omega (arith, e)), (4, c_row.sound 4 (inl refl))), λ d. refl)
    (out 3 refl refl (omega arith))
    (out 4 refl refl (omega arith))
    (out 5 refl refl (omega arith))
    (out 6 refl refl (omega arith))
    (out 7 refl refl (omega arith))
  where
    out : (q : ℕ) → has_bit 7 q ≡ false → has_bit 3 q ≡ false → 2 < q → (has_bit 7 q ≡ true) ↔ ((has_bit 3 q ≡ true) ⊎ IsConcernedBelow net starts 8 q)
    out q f g lt = (λ t. absurd (cc), λ d. ⊎_elim (λ t. absurd (cc)) (λ c. absurd (nobody_else q lt c)) d)

-- so the table's answer is the recovery's set
pub its_answer : (q : ℕ) → q < 8 → (has_bit 7 q ≡ true) ↔ IsConcernedIn rules s11 1 q
its_answer = told.concerned 7 answered
