-- The first state that has a place.
use Rattle.std.proofs.Common.{◌≡◌, ℕ, suc, ◌+◌, ◌<◌, ◌≤◌, Bool, true, false, not, cond, length, List, [], ◌∷◌, refl, sym, ap, subst, inl, inr, arith}
use Rattle.std.specs.Prelude.{◌==◌, ◌||◌, slice_index_or}
use Rattle.std.specs.List.{position_or_len, list_any}
use Rattle.std.proofs.lemmas.Bool.Decides.{Decides-eqb}
use Rattle.rcv_model.specs.Net.{IsIn}
use Rattle.rcv_charts.specs.States.{StateView, StandTogether}

-- what passes first, passes
pub first_passes : {X : Type 0} (p : X → Bool) (d : X) (xs : List X) → position_or_len p xs < length xs → p (slice_index_or xs (position_or_len p xs) d) ≡ true
first_passes p d [] lt = absurd (omega arith)
first_passes {X} p d (x ∷ xs) lt = go (p x) refl lt (first_passes p d xs)
  where
    n : ℕ
    n = position_or_len p xs

    go : (b : Bool) → p x ≡ b → cond (not b) (1 + n) 0 < length (x ∷ xs) → (n < length xs → p (slice_index_or xs n d) ≡ true) → p (slice_index_or (x ∷ xs) (cond (not b) (1 + n) 0) d) ≡ true
    go true e lt rest = e
    go false e lt rest = subst (λ m. p (slice_index_or (x ∷ xs) m d) ≡ true) (sym after) (rest (omega (arith, lt)))
      where
        after : 1 + n ≡ suc n
        after = omega arith

pub any_in : (k : ℕ) (xs : List ℕ) → list_any (λ other. other == k) xs ≡ true → IsIn k xs
any_in k [] e = absurd (cc)
any_in k (x ∷ xs) e = go (x == k) refl e (any_in k xs)
  where
    go : (b : Bool) → (x == k) ≡ b → (b || list_any (λ other. other == k) xs) ≡ true → (list_any (λ other. other == k) xs ≡ true → IsIn k xs) → IsIn k (x ∷ xs)
    go true same e rest = inl (sym ((Decides-eqb x k).0 same))
    go false same e rest = inr (rest e)

in_any : (k : ℕ) (xs : List ℕ) → IsIn k xs → list_any (λ other. other == k) xs ≡ true
in_any k [] none = elim none [ ]
in_any k (x ∷ xs) (inl e) = ap (λ b. b || list_any (λ other. other == k) xs) ((Decides-eqb x k).1 (sym e))
in_any k (x ∷ xs) (inr i) = go (x == k) (in_any k xs i)
  where
    go : (b : Bool) → list_any (λ other. other == k) xs ≡ true → (b || list_any (λ other. other == k) xs) ≡ true
    go true rest = refl
    go false rest = rest

-- a place that a state has is found
pub none_holds : (k : ℕ) (states : List StateView) → length states ≤ position_or_len (λ (s : StateView). list_any (λ other. other == k) s.places) states → StandTogether states k k → ⊥
none_holds k [] le none = none
none_holds k (s ∷ ss) le holds = go (list_any (λ other. other == k) s.places) refl le holds (none_holds k ss)
  where
    n : ℕ
    n = position_or_len (λ (s : StateView). list_any (λ other. other == k) s.places) ss

    go : (b : Bool) → list_any (λ other. other == k) s.places ≡ b → length (s ∷ ss) ≤ cond (not b) (1 + n) 0 → StandTogether (s ∷ ss) k k → (length ss ≤ n → StandTogether ss k k → ⊥) → ⊥
    go true e le holds rest = omega (arith, le)
    go false e le (inl here) rest = let found = in_any k s.places here.0 in absurd (cc)
    go false e le (inr there) rest = rest (omega (arith, le)) there
