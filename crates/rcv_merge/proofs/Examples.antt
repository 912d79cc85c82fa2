-- A round of two roles: A has entries with the stamps 1 and 4, and B with 2 and 3.
use Rattle.std.proofs.Common.{◌≡◌, ℕ, zero, suc, ◌<◌, ◌≤◌, ◌⊎◌, List, [], ◌∷◌, refl, inl, inr, ⊎_elim, arith}
use Rattle.rcv_tree.specs.declared.entry.Timed.{Timed}
use Rattle.rcv_merge.specs.Merge.{stamp_at, HasLeft, AreDone, IsFirst}
use Rattle.rcv_merge.specs.Shown.{sent}

abbrev at : ℕ → ℕ → Timed
at role stamp = record { stamp = stamp; step = sent role 1 stamp }

abbrev round : List (List Timed)
round = (at 0 1 ∷ at 0 4 ∷ []) ∷ (at 1 2 ∷ at 1 3 ∷ []) ∷ []

-- at the beginning A's entry comes first, and B's doesn't
first_of_all : IsFirst round (0 ∷ 0 ∷ []) 0
first_of_all = record { role = omega arith; left = omega arith; first = each }
  where
    each : (q : ℕ) → q < 2 → HasLeft round (0 ∷ 0 ∷ []) q → (stamp_at round (0 ∷ 0 ∷ []) 0 < stamp_at round (0 ∷ 0 ∷ []) q) ⊎ ((stamp_at round (0 ∷ 0 ∷ []) 0 ≡ stamp_at round (0 ∷ 0 ∷ []) q) × (0 ≤ q))
    each zero lt left = inr (refl, omega arith)
    each (suc zero) lt left = inl (omega arith)
    each (suc (suc q)) lt left = absurd (omega (arith, lt))

never_the_later : IsFirst round (0 ∷ 0 ∷ []) 1 → ⊥
never_the_later first = ⊎_elim (λ lt. omega (arith, lt)) (λ same. omega (arith, same.0)) (first.first 0 (omega arith) (omega arith))

-- with one entry left not all are done
not_done : AreDone round (2 ∷ 1 ∷ []) → ⊥
not_done done = let e = done 1 (omega arith) in absurd (omega (arith, e))
