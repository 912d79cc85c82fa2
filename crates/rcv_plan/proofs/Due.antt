-- How many of ascending counts have been reached, by the one that stands behind so many others.
use Rattle.std.proofs.Common.{◌≡◌, ℕ, zero, suc, ◌<◌, ◌≤◌, Bool, true, false, List, [], ◌∷◌, length, refl, arith}
use Rattle.std.specs.Prelude.{nat_le, nat_lt, slice_index_or, cond}
use Rattle.std.specs.List.{count_by}
use Rattle.std.specs.List.Sorted.{IsNonDecreasing, IsPermutation}
use Rattle.std.proofs.lemmas.Bool.Decides.{nat_tests}
use Rattle.std.proofs.lemmas.List.Sums.{count_by-le-length, sum_by-cons}
use Rattle.std.proofs.lemmas.List.Sorted.{IsNonDecreasingBy-drop, sum_by-IsPermutation}

-- above the number all of them are
none_up_to : (raw : ℕ) (xs : List ℕ) → ((k : ℕ) → k < length xs → raw < slice_index_or xs k 0) → count_by (λ n. nat_le n raw) xs ≡ 0
none_up_to raw [] h = refl
none_up_to raw (x ∷ xs) h =
    let first : raw < x = h 0 (omega arith) in
    let others = none_up_to raw xs (λ k l. h (suc k) (omega (arith, l))) in
    grind (arith, nat_tests)

pub reached : (raw c : ℕ) (xs : List ℕ) → IsNonDecreasing xs → c < length xs → nat_le (slice_index_or xs c 0) raw ≡ nat_lt c (count_by (λ n. nat_le n raw) xs)
reached raw c [] up l = absurd (omega (arith, l))
reached raw zero (x ∷ xs) up l = go (nat_le x raw) refl
  where
    go : (b : Bool) → nat_le x raw ≡ b → nat_le x raw ≡ nat_lt 0 (count_by (λ n. nat_le n raw) (x ∷ xs))
    go true e = let all = sum_by-cons (λ n. cond (nat_le n raw) 1 0) x xs in grind (arith, nat_tests)
    go false e =
        let above : raw < x = grind (arith, nat_tests) in
        let none = none_up_to raw xs (λ k l'. let m : x ≤ slice_index_or xs k 0 = up 0 (suc k) 0 (omega arith) (omega (arith, l')) in omega (arith, m, above)) in
        grind (arith, nat_tests)
reached raw (suc c) (x ∷ xs) up l = go (nat_le x raw) (nat_le (slice_index_or xs c 0) raw) refl refl (reached raw c xs (IsNonDecreasingBy-drop (λ n. n) 1 (x ∷ xs) up) (omega (arith, l)))
  where
    below : x ≤ slice_index_or xs c 0
    below = up 0 (suc c) 0 (omega arith) l

    go : (a b : Bool) → nat_le x raw ≡ a → nat_le (slice_index_or xs c 0) raw ≡ b → nat_le (slice_index_or xs c 0) raw ≡ nat_lt c (count_by (λ n. nat_le n raw) xs)
        → nat_le (slice_index_or xs c 0) raw ≡ nat_lt (suc c) (count_by (λ n. nat_le n raw) (x ∷ xs))
    go a b d e o = let m = below in let all = sum_by-cons (λ n. cond (nat_le n raw) 1 0) x xs in grind (arith, nat_tests)

pub past : (raw c : ℕ) (xs : List ℕ) → length xs ≤ c → nat_lt c (count_by (λ n. nat_le n raw) xs) ≡ false
past raw c [] l = grind (arith, nat_tests)
past raw c (x ∷ xs) l = let few = count_by-le-length (λ n. nat_le n raw) (x ∷ xs) in grind (arith, nat_tests)

-- the order of the counts doesn't matter
pub any_order : (raw : ℕ) (xs ys : List ℕ) → IsPermutation xs ys → count_by (λ n. nat_le n raw) ys ≡ count_by (λ n. nat_le n raw) xs
any_order raw xs ys p = sum_by-IsPermutation (λ n. cond (nat_le n raw) 1 0) xs ys p
