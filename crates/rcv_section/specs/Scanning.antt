-- A text read once, byte by byte, in search of a line.
use Rattle.std.specs.Prelude.{◌+◌, ◌&&◌, ◌==◌, ℕ, Bool, true, false, nat_eq, if◌then◌else◌, List, [], ◌∷◌, Option, Some, None, option_map}
use Rattle.std.specs.List.{starts_with}
use Rattle.rcv_lexer.specs.Parts.{line_of}
use Rattle.rcv_section.specs.Sections.{heading_word}

-- Where the line at the front of a text at a place ends, if one begins there and is this one.
abbrev pub behind_here : List ℕ → Bool → ℕ → List ℕ → Option ℕ
behind_here word false place text = None
behind_here word true place text = option_map (λ len. place + len) (line_of word text)

abbrev pub or_else : Option ℕ → Option ℕ → Option ℕ
or_else None other = other
or_else (Some place) other = Some place

-- Where the first line that is this one ends, in a text at a place.
abbrev pub behind_from : List ℕ → Bool → ℕ → List ℕ → Option ℕ
behind_from word fresh place [] = None
behind_from word fresh place (b ∷ bs) = or_else (behind_here word fresh place (b ∷ bs)) (behind_from word (b == 10) (place + 1) bs)

-- Where the first line starts that begins `session `, in a text at a place; if there is none, where the text ends.
abbrev pub heading_from : Bool → ℕ → List ℕ → ℕ
heading_from fresh place [] = place
heading_from fresh place (b ∷ bs) = if fresh && starts_with nat_eq (b ∷ bs) heading_word then place else heading_from (b == 10) (place + 1) bs
