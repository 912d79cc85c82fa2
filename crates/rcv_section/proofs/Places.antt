-- Lines of a text that stands before another.
use Rattle.std.proofs.Common.{◌≡◌, ◌+◌, ◌-◌, ◌<◌, ℕ, zero, suc, Bool, true, false, List, [], ◌∷◌, ◌++◌, length, refl, sym, subst, ◌⊎◌, inl, inr, ⊎_elim, arith}
use Rattle.std.specs.Prelude.{◌==◌}
use Rattle.std.proofs.lemmas.Bool.{cases_lt}
use Rattle.rcv_section.specs.Lines.{LineAt, IsWhole}

-- The place that is so far behind a text.
abbrev pub behind : List ℕ → ℕ → ℕ
behind [] p = p
behind (x ∷ xs) p = suc (behind xs p)

pub behind_is : (xs : List ℕ) (p : ℕ) → behind xs p ≡ length xs + p
behind_is [] p = omega arith
behind_is (x ∷ xs) p = let e = behind_is xs p in omega (arith, e)

-- A place is within a text or behind it.
pub within_or_behind : (xs : List ℕ) (q : ℕ) → (q < length xs) ⊎ ((p : ℕ) × (q ≡ behind xs p))
within_or_behind xs q = ⊎_elim (λ less. inl less) (λ most. inr (q - length xs, (let e = behind_is xs (q - length xs) in omega (arith, e, most)))) (cases_lt q (length xs))

-- Behind whole lines a text has the lines that it has alone.
pub shift : (Is : List ℕ → Type 0) (fresh : Bool) (xs ys : List ℕ) (p : ℕ) → IsWhole fresh xs → LineAt Is true ys p → LineAt Is fresh (xs ++ ys) (behind xs p)
shift Is fresh [] ys p whole at = subst (λ (f : Bool). LineAt Is f ys p) (sym whole) at
shift Is fresh (x ∷ xs) ys p whole at = shift Is (x == 10) xs ys p whole at

pub unshift : (Is : List ℕ → Type 0) (fresh : Bool) (xs ys : List ℕ) (p : ℕ) → IsWhole fresh xs → LineAt Is fresh (xs ++ ys) (behind xs p) → LineAt Is true ys p
unshift Is fresh [] ys p whole at = subst (λ (f : Bool). LineAt Is f ys p) whole at
unshift Is fresh (x ∷ xs) ys p whole at = unshift Is (x == 10) xs ys p whole at

-- Whole lines behind whole lines are whole lines.
pub both_whole : (fresh : Bool) (xs ys : List ℕ) → IsWhole fresh xs → IsWhole true ys → IsWhole fresh (xs ++ ys)
both_whole fresh [] ys a b = subst (λ (f : Bool). IsWhole f ys) (sym a) b
both_whole fresh (x ∷ xs) ys a b = both_whole (x == 10) xs ys a b

pub line_is_whole : (fresh : Bool) (xs : List ℕ) → IsWhole fresh (xs ++ 10 ∷ [])
line_is_whole fresh [] = refl
line_is_whole fresh (x ∷ xs) = line_is_whole (x == 10) xs

pub weaken : (A B : List ℕ → Type 0) → ((text : List ℕ) → A text → B text) → (fresh : Bool) (text : List ℕ) (p : ℕ) → LineAt A fresh text p → LineAt B fresh text p
weaken A B into fresh text zero at = (at.0, into text at.1)
weaken A B into fresh [] (suc p) at = at
weaken A B into fresh (b ∷ bs) (suc p) at = weaken A B into (b == 10) bs p at

-- No byte is a line feed.
abbrev pub NoFeed : List ℕ → Type 0
NoFeed [] = Unit {0}
NoFeed (b ∷ bs) = ((b == 10) ≡ false) × NoFeed bs

-- No line begins within a line.
pub none_within : (Is : List ℕ → Type 0) (xs ys : List ℕ) (p : ℕ) → NoFeed xs → p < length xs + 1 → LineAt Is false (xs ++ 10 ∷ ys) p → ⊥
none_within Is xs ys zero quiet less at = let e = at.0 in cc
none_within Is [] ys (suc p) quiet less at = omega (arith, less)
none_within Is (x ∷ xs) ys (suc p) quiet less at = none_within Is xs ys p quiet.1 (omega (arith, less)) (subst (λ (f : Bool). LineAt Is f (xs ++ 10 ∷ ys) p) quiet.0 at)
