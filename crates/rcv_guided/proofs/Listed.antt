-- Lists with one for each role.
use Rattle.std.proofs.Common.{◌≡◌, ℕ, zero, suc, ◌+◌, ◌<◌, Some, List, [], ◌∷◌, length, map, take, refl, sym, ◌∙◌, ap, subst, ⊎_elim, arith}
use Rattle.std.specs.Prelude.{All, slice_get, slice_set}
use Rattle.std.proofs.lemmas.Bool.{cases_lt}
use Rattle.rcv_model.proofs.Lists.{some_same}
use Rattle.std.specs.List.{range_with_len}
use Rattle.std.proofs.lemmas.List.Elements.{All-nil, All-cons}

-- What is alike for each role makes one list.
pub alike : {X : Type 0} (f g : ℕ → X) (a n : ℕ) → ((r : ℕ) → r < a + n → f r ≡ g r) → map f (range_with_len a n) ≡ map g (range_with_len a n)
alike f g a zero same = refl
alike f g a (suc n) same = ap (λ x. x ∷ map f (range_with_len (a + 1) n)) (same a (omega arith)) ∙ ap (λ l. g a ∷ l) (alike f g (a + 1) n (λ r lt. same r (omega (arith, lt))))

-- What holds of what is made of each role holds of the list.
pub each : {X : Type 0} (P : X → Type 0) (f : ℕ → X) (a n : ℕ) → ((r : ℕ) → r < a + n → P (f r)) → All P (map f (range_with_len a n))
each P f a zero of = All-nil P
each P f a (suc n) of = All-cons P (f a) (map f (range_with_len (a + 1) n)) (of a (omega arith)) (each P f (a + 1) n (λ r lt. of r (omega (arith, lt))))

-- A list with one item set.
set_here : {A : Type 0} (xs : List A) (k : ℕ) (x : A) → k < length xs → slice_get (slice_set xs k x) k ≡ Some x
set_here [] k x lt = absurd (omega (arith, lt))
set_here (y ∷ xs) zero x lt = refl
set_here (y ∷ xs) (suc k) x lt = set_here xs k x (omega (arith, lt))

set_else : {A : Type 0} (xs : List A) (k : ℕ) (x : A) (j : ℕ) → (j ≡ k → ⊥) → slice_get (slice_set xs k x) j ≡ slice_get xs j
set_else [] k x j n = refl
set_else (y ∷ xs) zero x zero n = absurd (n refl)
set_else (y ∷ xs) zero x (suc j) n = refl
set_else (y ∷ xs) (suc k) x zero n = refl
set_else (y ∷ xs) (suc k) x (suc j) n = set_else xs k x j (λ e. n (ap suc e))

-- One item more is one for which this holds.
pub set_each : {A : Type 0} (P : ℕ → A → Type 0) (xs : List A) (n : ℕ) (x : A) → n < length xs → P n x → ((r : ℕ) (y : A) → r < n → slice_get xs r ≡ Some y → P r y)
    → (r : ℕ) (y : A) → r < n + 1 → slice_get (slice_set xs n x) r ≡ Some y → P r y
set_each P xs n x lt here before r y low there = ⊎_elim
    (λ less. before r y less (sym (set_else xs n x r (λ e. below_not r n less e)) ∙ there))
    (λ le. at_end r (omega (arith, le, low)) there)
    (cases_lt r n)
  where
    below_not : (a b : ℕ) → a < b → a ≡ b → ⊥
    below_not a b less e = absurd (omega (arith, less, e))

    at_end : (q : ℕ) → q ≡ n → slice_get (slice_set xs n x) q ≡ Some y → P q y
    at_end q e at = subst (λ k. P k y) (sym e) (subst (P n) (some_same (sym (set_here xs n x lt) ∙ subst (λ k. slice_get (slice_set xs n x) k ≡ Some y) e at)) here)

-- What the first items of a list have.
pub first_get : {A : Type 0} (xs : List A) (n r : ℕ) (y : A) → slice_get (take n xs) r ≡ Some y → (r < n) × (slice_get xs r ≡ Some y)
first_get [] zero r y e = absurd (cc)
first_get [] (suc n) r y e = absurd (cc)
first_get (x ∷ xs) zero r y e = absurd (cc)
first_get (x ∷ xs) (suc n) zero y e = (omega arith, e)
first_get (x ∷ xs) (suc n) (suc r) y e = let rest = first_get xs n r y e in ((let lt = rest.0 in omega (arith, lt)), rest.1)

-- What each item has all have.
pub all_got : {A : Type 0} (P : A → Type 0) (xs : List A) → ((r : ℕ) (x : A) → slice_get xs r ≡ Some x → P x) → All P xs
all_got P [] of = All-nil P
all_got P (x ∷ xs) of = All-cons P x xs (of 0 x refl) (all_got P xs (λ r y e. of (suc r) y e))
