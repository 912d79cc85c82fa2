-- Lines of a text, by where they begin.
use Rattle.std.specs.Prelude.{◌≡◌, ◌==◌, ℕ, zero, suc, Bool, true, List, [], ◌∷◌}

-- A line begins at this place of a text, and what stands from there on is so. `fresh` says whether a line begins at the front of the text;
-- after a line feed one does.
abbrev pub LineAt : (List ℕ → Type 0) → Bool → List ℕ → ℕ → Type 0
LineAt Is fresh text zero = (fresh ≡ true) × Is text
LineAt Is fresh [] (suc place) = ⊥
LineAt Is fresh (b ∷ bs) (suc place) = LineAt Is (b == 10) bs place

-- The text is whole lines: it is empty or ends with a line feed.
abbrev pub IsWhole : Bool → List ℕ → Type 0
IsWhole fresh [] = fresh ≡ true
IsWhole fresh (b ∷ bs) = IsWhole (b == 10) bs
