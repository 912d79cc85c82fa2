-- Names in a list: the one at a place, and the place of one.
use Rattle.std.specs.Prelude.{ℕ, List, [], Option, position, slice_index_or}
use Rattle.std.specs.Str.{bytes_eq}

-- The name at a place, counted from 0; the empty name if the list ends before. The place of a role's name is its number.
abbrev pub name_at : List (List ℕ) → ℕ → List ℕ
name_at names place = slice_index_or names place []

-- The first place of a name, counted from 0; none if the list doesn't have it.
abbrev pub place_of : List (List ℕ) → List ℕ → Option ℕ
place_of names name = position (λ other. bytes_eq other name) names
