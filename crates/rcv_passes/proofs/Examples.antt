-- Two places that count their runs, and tools that are like each other where they are one number.
use Prim.Native.Nat.{zero, suc}
use Rattle.std.proofs.Common.{◌≡◌, ℕ, ◌+◌, ◌<◌, ◌≤◌, [], ◌∷◌, refl, arith, slice_index_or}
use Rattle.rcv_passes.specs.Round.{AreOfOneKind, AreLikeBefore, AreReady, HaveRun, HaveRunWithEach}

abbrev may_run : ℕ → Type 0
may_run x = x ≤ 9

abbrev is_like : ℕ → ℕ → Type 0
is_like t u = t ≡ u

-- runs with a tool add its number, once or more
abbrev has_run : ℕ → ℕ → ℕ → Type 0
has_run t x y = t + x ≤ y

are_alike : AreOfOneKind is_like (2 ∷ 2 ∷ [])
are_alike zero zero d e li lj = refl
are_alike zero (suc zero) d e li lj = refl
are_alike (suc zero) zero d e li lj = refl
are_alike (suc zero) (suc zero) d e li lj = refl
are_alike (suc (suc i)) j d e li lj = absurd (omega (arith, li))
are_alike zero (suc (suc j)) d e li lj = absurd (omega (arith, lj))
are_alike (suc zero) (suc (suc j)) d e li lj = absurd (omega (arith, lj))

have_run : HaveRun may_run has_run 2 (0 ∷ 5 ∷ []) (4 ∷ 7 ∷ [])
have_run = (refl, ready, each)
  where
    ready : AreReady may_run (4 ∷ 7 ∷ [])
    ready zero d lt = omega arith
    ready (suc zero) d lt = omega arith
    ready (suc (suc i)) d lt = absurd (omega (arith, lt))

    each : (i : ℕ) (d : ℕ) → i < 2 → has_run 2 (slice_index_or (0 ∷ 5 ∷ []) i d) (slice_index_or (4 ∷ 7 ∷ []) i d)
    each zero d lt = omega arith
    each (suc zero) d lt = omega arith
    each (suc (suc i)) d lt = absurd (omega (arith, lt))

-- the last place wasn't run
last_is_left : HaveRun may_run has_run 2 (0 ∷ 5 ∷ []) (2 ∷ 5 ∷ []) → ⊥
last_is_left run = let second : 2 + 5 ≤ 5 = run.2 1 0 (omega arith) in omega (arith, second)

-- a place is lost
one_is_lost : HaveRun may_run has_run 2 (0 ∷ 5 ∷ []) (2 ∷ []) → ⊥
one_is_lost run = let same = run.0 in omega (arith, same)

-- the second tool was exchanged for one of another kind
one_is_exchanged : AreLikeBefore is_like (2 ∷ 2 ∷ []) (2 ∷ 3 ∷ []) → ⊥
one_is_exchanged before = let second : 2 ≡ 3 = before.1 1 0 (omega arith) in omega (arith, second)

-- a run with the first of two tools alone, where the second is of another kind
second_has_not_run : HaveRunWithEach may_run has_run (1 ∷ 3 ∷ []) (0 ∷ []) (1 ∷ []) → ⊥
second_has_not_run run =
    let second : 3 + 0 ≤ 1 = (run 1 0 (omega arith)).2 0 0 (omega arith) in
    omega (arith, second)
