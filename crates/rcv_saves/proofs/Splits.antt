-- Ascending counts that are split at a count.
use Prim.Native.Nat.{zero, suc}
use Rattle.std.proofs.Common.{◌≡◌, ℕ, ◌+◌, ◌-◌, ◌<◌, ◌≤◌, Bool, true, false, cond, List, [], ◌∷◌, ◌++◌, length, take, drop, refl, sym, ◌∙◌, ap, subst, ⊎_elim, arith, le-leb, le-ltb, lt-ltb, leb-true, leb-false}
use Rattle.std.specs.Prelude.{slice_index, nat_lt, nat_le}
use Rattle.std.specs.List.{filter, insert}
use Rattle.std.specs.List.Sorted.{IsNonDecreasingBy, IsPartitionPoint}
use Rattle.std.proofs.lemmas.Bool.{cases_lt, lt-leb}
use Rattle.std.proofs.lemmas.List.{get_or-take, get_or-drop, length-take-le, length-drop}
use Rattle.std.proofs.lemmas.List.Edits.{length-insert, get_or-insert_below, get_or-insert_at, get_or-insert_above}
use Rattle.std.proofs.lemmas.List.Sorted.{IsNonDecreasingBy-from_default}
use Rattle.rcv_saves.specs.Counts.{IsAscending, IsSplit, up_to, above, with_count}

-- Where a test holds of the first so many alone, it keeps these; where of the others alone, those.
pub first_pass : (f : ℕ → Bool) (xs : List ℕ) (p : ℕ) → ((i : ℕ) → i < p → i < length xs → f (slice_index xs i) ≡ true) → ((i : ℕ) → p ≤ i → i < length xs → f (slice_index xs i) ≡ false) → filter f xs ≡ take p xs
first_pass f [] zero pass fail = refl
first_pass f [] (suc p) pass fail = refl
first_pass f (x ∷ xs) zero pass fail =
    ap (λ b. cond b (x ∷ filter f xs) (filter f xs)) (fail 0 (omega arith) (omega arith))
    ∙ first_pass f xs zero (λ i lt. absurd (omega (arith, lt))) (λ i le lt. fail (suc i) (omega arith) (omega (arith, lt)))
    ∙ refl
first_pass f (x ∷ xs) (suc p) pass fail =
    ap (λ b. cond b (x ∷ filter f xs) (filter f xs)) (pass 0 (omega arith) (omega arith))
    ∙ ap (λ l. x ∷ l) (first_pass f xs p (λ i lt in_. pass (suc i) (omega (arith, lt)) (omega (arith, in_))) (λ i le lt. fail (suc i) (omega (arith, le)) (omega (arith, lt))))

pub others_pass : (f : ℕ → Bool) (xs : List ℕ) (p : ℕ) → ((i : ℕ) → i < p → i < length xs → f (slice_index xs i) ≡ false) → ((i : ℕ) → p ≤ i → i < length xs → f (slice_index xs i) ≡ true) → filter f xs ≡ drop p xs
others_pass f [] zero fail pass = refl
others_pass f [] (suc p) fail pass = refl
others_pass f (x ∷ xs) zero fail pass =
    ap (λ b. cond b (x ∷ filter f xs) (filter f xs)) (pass 0 (omega arith) (omega arith))
    ∙ ap (λ l. x ∷ l) (others_pass f xs zero (λ i lt. absurd (omega (arith, lt))) (λ i le lt. pass (suc i) (omega arith) (omega (arith, lt))))
others_pass f (x ∷ xs) (suc p) fail pass =
    ap (λ b. cond b (x ∷ filter f xs) (filter f xs)) (fail 0 (omega arith) (omega arith))
    ∙ others_pass f xs p (λ i lt in_. fail (suc i) (omega (arith, lt)) (omega (arith, in_))) (λ i le lt. pass (suc i) (omega (arith, le)) (omega (arith, lt)))

pub rising : (xs : List ℕ) → IsAscending xs → IsNonDecreasingBy (λ x. x) xs
rising xs up = IsNonDecreasingBy-from_default (λ x. x) xs 0 (λ i j le lt. ⊎_elim (λ less. let a = up i j less lt in omega (arith, a)) (λ more. let same : i ≡ j = omega (arith, le, more) in let e = ap (slice_index xs) same in omega (arith, e)) (cases_lt i j))

pub split_at : (xs : List ℕ) (c p : ℕ) → p ≤ length xs → IsPartitionPoint (λ x. nat_le x c ≡ true) (λ x. nat_le x c ≡ false) xs p → IsSplit xs c p
split_at xs c p in_ point = record {
  within = in_;
  low = λ i lt. leb-true (slice_index xs i) c (point.0 i 0 (omega arith) lt);
  high = λ i le lt. leb-false (slice_index xs i) c (point.1 i 0 le lt);
}

module _ (xs : List ℕ) (c p : ℕ) (is : IsSplit xs c p) where
  pub low_are : up_to c xs ≡ take p xs
  low_are = first_pass (λ x. nat_le x c) xs p (λ i lt in_. le-leb (slice_index xs i) c (is.low i lt)) (λ i le lt. lt-leb (slice_index xs i) c (is.high i le lt))

  pub high_are : above c xs ≡ drop p xs
  high_are = others_pass (λ x. nat_lt c x) xs p (λ i lt in_. le-ltb c (slice_index xs i) (is.low i lt)) (λ i le lt. lt-ltb c (slice_index xs i) (is.high i le lt))

  -- Where all of the first are below, the count is put behind them.
  pub put_in : ((i : ℕ) → i < p → slice_index xs i < c) → with_count c xs ≡ insert xs p c
  put_in less =
      ap (λ l. l ++ c ∷ above c xs) (first_pass (λ x. nat_lt x c) xs p (λ i lt in_. lt-ltb (slice_index xs i) c (less i lt)) (λ i le lt. le-ltb (slice_index xs i) c (let a = is.high i le lt in omega (arith, a))))
      ∙ ap (λ l. take p xs ++ c ∷ l) high_are

module _ (xs : List ℕ) (up : IsAscending xs) where
  pub up_first : (p : ℕ) → p ≤ length xs → IsAscending (take p xs)
  up_first p le i j lt in_ =
      let n = length-take-le p xs le in
      let a = get_or-take p xs i 0 (omega (arith, n, lt, in_)) in
      let b = get_or-take p xs j 0 (omega (arith, n, in_)) in
      let u = up i j lt (omega (arith, n, le, in_)) in
      omega (arith, a, b, u)

  pub up_others : (p : ℕ) → p ≤ length xs → IsAscending (drop p xs)
  up_others p le i j lt in_ =
      let n = length-drop p xs in
      let a = get_or-drop p xs i 0 in
      let b = get_or-drop p xs j 0 in
      let u = up (p + i) (p + j) (omega (arith, lt)) (omega (arith, n, le, in_)) in
      omega (arith, a, b, u)

  -- What isn't the last of the first ones is above all of them.
  pub all_less : (c p : ℕ) → IsSplit xs c p → ((0 < p) × (slice_index xs (p - 1) ≡ c) → ⊥) → (i : ℕ) → i < p → slice_index xs i < c
  all_less c p is not i lt = ⊎_elim
      (λ early. let a = up i (p - 1) early (let w = is.within in omega (arith, w, lt)) in let b = is.low (p - 1) (omega (arith, lt)) in omega (arith, a, b))
      (λ late. ⊎_elim
      (λ less. less)
      (λ more. absurd (let same : i ≡ p - 1 = omega (arith, lt, late) in let b = is.low i lt in not (omega (arith, lt), subst (λ k. slice_index xs k ≡ c) same (omega (arith, more, b)))))
      (cases_lt (slice_index xs i) c))
      (cases_lt i (p - 1))

  pub up_put : (c p : ℕ) → IsSplit xs c p → ((i : ℕ) → i < p → slice_index xs i < c) → IsAscending (insert xs p c)
  up_put c p is less i j lt in_ = ⊎_elim
      (λ jp. let a = before i (omega (arith, lt, jp)) in let b = before j jp in let u = up i j lt (let w = is.within in omega (arith, w, jp)) in omega (arith, a.0, b.0, u))
      (λ pj. ⊎_elim
      (λ ip. let a = before i ip in let b = no_less j pj in_ in omega (arith, a.1, b))
      (λ pi. ⊎_elim
      (λ after. let a = behind i after (omega (arith, lt, in_)) in let b = behind j (omega (arith, after, lt)) in_ in let u = up (i - 1) (j - 1) (omega (arith, lt, after)) (omega (arith, n, in_, lt)) in omega (arith, a.0, b.0, u))
      (λ le. let same : i ≡ p = omega (arith, pi, le) in let a = ap (slice_index (insert xs p c)) same in let h = here in let b = behind j (omega (arith, same, lt)) in_ in omega (arith, a, h, b.1))
      (cases_lt p i))
      (cases_lt i p))
      (cases_lt j p)
    where
      n : length (insert xs p c) ≡ length xs + 1
      n = length-insert xs p c is.within

      here : slice_index (insert xs p c) p ≡ c
      here = get_or-insert_at xs p c 0 is.within

      before : (k : ℕ) → k < p → (slice_index (insert xs p c) k ≡ slice_index xs k) × (slice_index (insert xs p c) k < c)
      before k lt = let a = get_or-insert_below xs p c 0 k lt is.within in let l = less k lt in (a, omega (arith, a, l))

      behind : (k : ℕ) → p < k → k < length (insert xs p c) → (slice_index (insert xs p c) k ≡ slice_index xs (k - 1)) × (c < slice_index (insert xs p c) k)
      behind k lt in_ =
          let a = get_or-insert_above xs p c 0 (k - 1) (omega (arith, lt)) is.within in
          let e : (k - 1) + 1 ≡ k = omega (arith, lt) in
          let b = ap (slice_index (insert xs p c)) e in
          let h = is.high (k - 1) (omega (arith, lt)) (omega (arith, n, in_, lt)) in
          (omega (arith, a, b), omega (arith, a, b, h))

      no_less : (k : ℕ) → p ≤ k → (k < length (insert xs p c)) → c ≤ slice_index (insert xs p c) k
      no_less k le in_ = ⊎_elim
          (λ lt. let b = behind k lt in_ in omega (arith, b.1))
          (λ ge. let same : k ≡ p = omega (arith, le, ge) in let a = ap (slice_index (insert xs p c)) same in let h = here in omega (arith, a, h))
          (cases_lt p k)

-- The counts with one that they have.
pub there_already : (xs : List ℕ) → IsAscending xs → (c p : ℕ) → IsSplit xs c p → 0 < p → slice_index xs (p - 1) ≡ c → with_count c xs ≡ xs
there_already xs up c p is some at =
    ap (λ l. l ++ c ∷ above c xs) (first_pass (λ x. nat_lt x c) xs (p - 1)
    (λ i lt in_. lt-ltb (slice_index xs i) c (let a = up i (p - 1) lt (let w = is.within in omega (arith, w, some)) in omega (arith, a, at)))
    (λ i le lt. le-ltb (slice_index xs i) c (⊎_elim
    (λ early. let same : i ≡ p - 1 = omega (arith, le, early) in let e = ap (slice_index xs) same in omega (arith, e, at))
    (λ late. let h = is.high i late lt in omega (arith, h))
    (cases_lt i p))))
    ∙ ap (λ l. take (p - 1) xs ++ c ∷ l) (high_are xs c p is)
    ∙ joined xs (p - 1) c p (omega (arith, some)) (let w = is.within in omega (arith, w, some)) at
  where
    joined : (ys : List ℕ) (k x q : ℕ) → q ≡ suc k → k < length ys → slice_index ys k ≡ x → take k ys ++ x ∷ drop q ys ≡ ys
    joined [] k x q e lt at = absurd (omega (arith, lt))
    joined (y ∷ ys) zero x q e lt at = ap (λ (r : ℕ). x ∷ drop r (y ∷ ys)) e ∙ ap (λ z. z ∷ ys) (sym at)
    joined (y ∷ ys) (suc k) x q e lt at = ap (λ (r : ℕ). y ∷ (take k ys ++ x ∷ drop r (y ∷ ys))) e ∙ ap (λ l. y ∷ l) (joined ys k x (suc k) refl (omega (arith, lt)) at)
