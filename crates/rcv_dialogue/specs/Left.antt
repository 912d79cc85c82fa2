-- What is left of a line's words.
use Rattle.std.specs.Prelude.{ℕ, List, [], ◌∷◌}
use Rattle.rcv_lines.specs.Cutting.{fields_of}

-- The words after the space that the bytes begin with; none if there are no bytes.
abbrev pub left : List ℕ → List (List ℕ)
left [] = []
left (space ∷ text) = fields_of text
