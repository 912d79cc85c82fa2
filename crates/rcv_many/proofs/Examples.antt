-- Two items that take turns: numbers that count down, end at 0 and stop at 1.
use Prim.Native.Nat.{zero, suc}
use Rattle.std.proofs.Common.{◌≡◌, ℕ, ◌<◌, ◌≤◌, [], ◌∷◌, refl, inl, inr, arith, ⊎_elim, slice_index_or}
use Rattle.rcv_many.specs.Turns.{IsOver, AreOver, HaveGone, AreDone}

abbrev has_ended : ℕ → Type 0
has_ended x = x ≡ 0

abbrev has_stopped : ℕ → Type 0
has_stopped x = x ≡ 1

abbrev counts_down : ℕ → ℕ → Type 0
counts_down x y = y ≤ x

-- one has ended, and one has stopped
are_over : AreOver has_ended has_stopped 2 (0 ∷ 1 ∷ [])
are_over zero d lt = inl refl
are_over (suc zero) d lt = inr refl
are_over (suc (suc i)) d lt = absurd (omega (arith, lt))

have_gone : HaveGone counts_down (7 ∷ 3 ∷ []) (0 ∷ 1 ∷ [])
have_gone = (refl, each)
  where
    each : (i : ℕ) (d : ℕ) → i < 2 → counts_down (slice_index_or (7 ∷ 3 ∷ []) i d) (slice_index_or (0 ∷ 1 ∷ []) i d)
    each zero d lt = omega arith
    each (suc zero) d lt = omega arith
    each (suc (suc i)) d lt = absurd (omega (arith, lt))

are_done : AreDone has_ended has_stopped counts_down (7 ∷ 3 ∷ []) (0 ∷ 1 ∷ [])
are_done = (have_gone, are_over)

-- the second one goes on
second_goes_on : AreDone has_ended has_stopped counts_down (7 ∷ 3 ∷ []) (0 ∷ 2 ∷ []) → ⊥
second_goes_on done =
    let second : IsOver has_ended has_stopped 2 = done.1 1 0 (omega arith) in
    ⊎_elim (λ e. absurd (omega (arith, e))) (λ e. absurd (omega (arith, e))) second

-- one is left out
one_is_lost : HaveGone counts_down (7 ∷ 3 ∷ []) (0 ∷ []) → ⊥
one_is_lost gone = let same = gone.0 in omega (arith, same)

-- they have changed places
are_exchanged : HaveGone counts_down (7 ∷ 0 ∷ []) (0 ∷ 7 ∷ []) → ⊥
are_exchanged gone = let second : 7 ≤ 0 = gone.1 1 0 (omega arith) in omega (arith, second)
