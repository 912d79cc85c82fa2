-- The last of two kinds of counts.
use Rattle.std.proofs.Common.{◌≡◌, ℕ, ◌+◌, ◌*◌, ◌/◌, ◌%◌, ◌-◌, ◌<◌, ◌≤◌, max, List, length, refl, ◌∙◌, ap, subst, ⊎_elim, inl, inr, arith}
use Rattle.std.specs.Prelude.{slice_index, slice_index_or, ◌⊎◌}
use Rattle.std.specs.List.{Contains}
use Rattle.std.proofs.Math.Nat.{mul-le-mul_left}
use Rattle.std.proofs.lemmas.Nat.{le-div, div-add-mod'}
use Rattle.std.proofs.lemmas.Bool.{cases_lt}
use Rattle.std.proofs.lemmas.List.{get_or_default}
use Rattle.rcv_saves.specs.Counts.{IsAscending, IsSplit, IsStepped, IsFrom, IsLast, IsLastTold, IsLastStepped}

-- There is none, and the base stays.
pub base_is_last : (P : ℕ → Type 0) (base count : ℕ) → base ≤ count → ((other : ℕ) → P other → other ≤ count → other ≤ base) → IsLast P base count base
base_is_last P base count le none = record {
  is = inl refl;
  within = le;
  greatest = λ other is low. ⊎_elim (λ e. omega (arith, e)) (λ p. none other p.1 low) is;
}

-- The greatest one, or the base where that is greater.
pub greatest_is_last : (P : ℕ → Type 0) (base count c : ℕ) → base ≤ count → P c → c ≤ count → ((other : ℕ) → P other → other ≤ count → other ≤ c) → IsLast P base count (max base c)
greatest_is_last P base count c le is low top = ⊎_elim
    (λ lt. subst (IsLast P base count) (let m : base ≡ max base c = omega (arith, lt) in m) (base_is_last P base count le (λ other p o. let a = top other p o in omega (arith, a, lt))))
    (λ ge. subst (IsLast P base count) (let m : c ≡ max base c = omega (arith, ge) in m) (record {
      is = inr (ge, is);
      within = low;
      greatest = λ other from o. ⊎_elim (λ e. omega (arith, e, ge)) (λ p. top other p.1 o) from;
    }))
    (cases_lt c base)

-- The greater of the last ones of two kinds is the last of both.
pub both_last : (P Q : ℕ → Type 0) (base count a b : ℕ) → IsLast P base count a → IsLast Q base count b → IsLast (λ c. P c ⊎ Q c) base count (max a b)
both_last P Q base count a b p q = record {
  is = ⊎_elim
      (λ lt. subst (IsFrom (λ c. P c ⊎ Q c) base) (let m : b ≡ max a b = omega (arith, lt) in m) (⊎_elim (λ e. inl e) (λ i. inr (i.0, inr i.1)) q.is))
      (λ ge. subst (IsFrom (λ c. P c ⊎ Q c) base) (let m : a ≡ max a b = omega (arith, ge) in m) (⊎_elim (λ e. inl e) (λ i. inr (i.0, inl i.1)) p.is))
      (cases_lt a b);
  within = let x = p.within in let y = q.within in omega (arith, x, y);
  greatest = λ other from low. ⊎_elim
      (λ e. let x = p.greatest other (inl e) low in omega (arith, x))
      (λ i. ⊎_elim
      (λ o. let x = p.greatest other (inr (i.0, o)) low in omega (arith, x))
      (λ o. let x = q.greatest other (inr (i.0, o)) low in omega (arith, x))
      i.1)
      from;
}

-- Of ascending counts that are split, the last of the first ones.
pub told_last : (xs : List ℕ) → IsAscending xs → (base count p c : ℕ) → base ≤ count → IsSplit xs count p → 0 < p → slice_index xs (p - 1) ≡ c → IsLastTold xs base count (max base c)
told_last xs up base count p c le is some at = greatest_is_last (Contains xs) base count c le
    (p - 1, last_in, there)
    (let l = is.low (p - 1) (omega (arith, some)) in omega (arith, l, at))
    top
  where
    last_in : p - 1 < length xs
    last_in = let w = is.within in omega (arith, w, some)

    there : slice_index_or xs (p - 1) c ≡ c
    there = get_or_default xs (p - 1) c 0 last_in ∙ at

    top : (other : ℕ) → Contains xs other → other ≤ count → other ≤ c
    top other has low = ⊎_elim
        (λ lt. ⊎_elim
        (λ early. let u = up has.0 (p - 1) early (let w = is.within in omega (arith, w, some)) in let e = has.2 in let d = get_or_default xs has.0 0 other has.1 in omega (arith, u, e, d, at))
        (λ late. let same : has.0 ≡ p - 1 = omega (arith, lt, late) in let s = ap (slice_index xs) same in let e = has.2 in let d = get_or_default xs has.0 0 other has.1 in omega (arith, s, e, d, at))
        (cases_lt has.0 (p - 1)))
        (λ ge. absurd (let h = is.high has.0 ge has.1 in let e = has.2 in let d = get_or_default xs has.0 0 other has.1 in omega (arith, h, e, d, low)))
        (cases_lt has.0 p)

-- The multiple of a step is the count without its rest.
pub stepped_last : (step base count : ℕ) → base ≤ count → 0 < step → IsLastStepped step base count (max base (count - count % step))
stepped_last step base count le some = greatest_is_last (IsStepped step) base count (count - count % step) le
    (some, (count / step, multiple))
    (omega arith)
    top
  where
    whole : (count / step) * step + count % step ≡ count
    whole = div-add-mod' count step

    multiple : (count / step) * step ≡ count - count % step
    multiple = let w = whole in omega (arith, w)

    top : (other : ℕ) → IsStepped step other → other ≤ count → other ≤ count - count % step
    top other is low =
        let e = is.1.1 in
        let k = le-div is.1.0 count step some (omega (arith, e, low)) in
        let more = mul-le-mul_left step k in
        let w = whole in
        omega (arith, w, more, e)
