-- The first code of a table: at the first symbol, or the end, at which a code holds, the least one there. This is said over any
-- symbols, faults and codes. `at f front left` says that the fault's code holds at the symbol with which left begins, if front
-- stands before it; at the end nothing is left.
use Rattle.std.specs.Prelude.{◌≡◌, ◌<◌, ℕ, List, [], ◌∷◌, ◌++◌}

-- the symbols, the nearest first, in front of those before them
abbrev pub backward : {S : Type 0} → List S → List S → List S
backward [] back = back
backward (t ∷ ts) back = backward ts (t ∷ back)

-- no code holds at any symbol, nor at the end
abbrev pub IsFree : {S F : Type 0} → (F → List S → List S → Type 0) → List S → Type 0
IsFree {S} {F} at symbols = (f : F) (front left : List S) → symbols ≡ front ++ left → at f front left → ⊥

-- The code holds at the first of what is left, no lesser code does, and no code holds before.
pub record IsFirst {S F : Type 0} (code : F → ℕ) (at : F → List S → List S → Type 0) (symbols : List S) (f : F) (left : List S) : Type 0 where
  pub front : List S
  pub cut : symbols ≡ front ++ left
  pub holds : at f front left
  pub least : (g : F) → code g < code f → at g front left → ⊥
  pub first : (g : F) (before : List S) (t : S) (others : List S) → front ≡ before ++ t ∷ others → at g before (t ∷ others ++ left) → ⊥
