-- A list of symbols has one first code.
use Rattle.std.proofs.Common.{◌≡◌, ℕ, List, [], ◌∷◌, ◌++◌, ◌<◌, arith, refl, sym, subst, ◌∙◌, ◌⊎◌, inl, inr}
use Rattle.rcv_lexer.specs.Refusing.{backward, IsFirst}

-- two ways to cut a list: the second cut is further on, or the first, or they are one
abbrev IsBehind : {S : Type 0} → List S → List S → List S → List S → Type 0
IsBehind {S} xs ys us vs = (t : S) × (others : List S) × (us ≡ xs ++ t ∷ others) × (ys ≡ t ∷ others ++ vs)

abbrev Cuts : {S : Type 0} → List S → List S → List S → List S → Type 0
Cuts xs ys us vs = ((xs ≡ us) × (ys ≡ vs)) ⊎ (IsBehind xs ys us vs ⊎ IsBehind us vs xs ys)

cuts : {S : Type 0} (xs ys us vs : List S) → xs ++ ys ≡ us ++ vs → Cuts xs ys us vs
cuts [] ys [] vs e = inl (refl, e)
cuts [] ys (u ∷ us) vs e = inr (inl (u, us, refl, e))
cuts (x ∷ xs) ys [] vs e = inr (inr (x, xs, refl, sym e))
cuts (x ∷ xs) ys (u ∷ us) vs e = more (cuts xs ys us vs cc)
  where
    same : x ≡ u
    same = cc

    more : Cuts xs ys us vs → Cuts (x ∷ xs) ys (u ∷ us) vs
    more (inl h) = let a = h.0 in let b = same in inl (cc, h.1)
    more (inr (inl h)) = let a = h.2 in let b = same in inr (inl (h.0, h.1, cc, h.3))
    more (inr (inr h)) = let a = h.2 in let b = same in inr (inr (h.0, h.1, cc, h.3))

module _ {S F : Type 0} (code : F → ℕ) (at : F → List S → List S → Type 0) (apart : (f g : F) → code f ≡ code g → f ≡ g) where
  pub one_first : (symbols : List S) (f g : F) (left other : List S) → IsFirst code at symbols f left → IsFirst code at symbols g other → (f ≡ g) × (left ≡ other)
  one_first symbols f g left other h i = meet (cuts h.front left i.front other (sym h.cut ∙ i.cut))
    where
      meet : Cuts h.front left i.front other → (f ≡ g) × (left ≡ other)
      meet (inl e) =
          let up : code f < code g → ⊥ = λ less. i.least f less (subst (λ (z : List S). at f z other) e.0 (subst (λ (z : List S). at f h.front z) e.1 h.holds)) in
          let down : code g < code f → ⊥ = λ less. h.least g less (subst (λ (z : List S). at g h.front z) (sym e.1) (subst (λ (z : List S). at g z other) (sym e.0) i.holds)) in
          let same : code f ≡ code g = omega (arith, up, down) in
          (apart f g same, e.1)
      meet (inr (inl e)) = absurd (i.first f h.front e.0 e.1 e.2 (subst (λ (z : List S). at f h.front z) e.3 h.holds))
      meet (inr (inr e)) = absurd (h.first g i.front e.0 e.1 e.2 (subst (λ (z : List S). at g i.front z) e.3 i.holds))

pub backward_append : {S : Type 0} (xs ys back : List S) → backward (xs ++ ys) back ≡ backward ys (backward xs back)
backward_append [] ys back = refl
backward_append (x ∷ xs) ys back = backward_append xs ys (x ∷ back)
