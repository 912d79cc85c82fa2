-- Texts that are cut at their spaces.
use Rattle.std.specs.Prelude.{◌≡◌, ◌==◌, ℕ, if◌then◌else◌, List, [], ◌∷◌, ◌++◌, map, flat_map}
use Rattle.std.specs.Borrow.{Bor}

-- The fields as texts.
abbrev pub texts : List (Bor (List ℕ)) → List (List ℕ)
texts fields = map (λ f. f.now) fields

-- What stands between the spaces of a text, which may be nothing: one field more than there are spaces.
abbrev pub fields_from : List ℕ → List ℕ → List (List ℕ)
fields_from begun [] = begun ∷ []
fields_from begun (b ∷ rest) = if b == 32 then begun ∷ fields_from [] rest else fields_from (begun ++ b ∷ []) rest

abbrev pub fields_of : List ℕ → List (List ℕ)
fields_of text = fields_from [] text

-- The text of fields, with a space before each field after the first.
abbrev pub spaced : List ℕ → List ℕ
spaced field = 32 ∷ field

abbrev pub joined : List (List ℕ) → List ℕ
joined [] = []
joined (field ∷ fields) = field ++ flat_map spaced fields

-- This byte isn't in the text.
abbrev pub Lacks : ℕ → List ℕ → Type 0
Lacks byte [] = Unit {0}
Lacks byte (b ∷ rest) = (b ≡ byte → ⊥) × Lacks byte rest
