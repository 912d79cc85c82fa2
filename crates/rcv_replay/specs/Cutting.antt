-- An input that is a bundle with a journal after it: where the line between them stands.
use Rattle.std.specs.Prelude.{ℕ, ◌+◌, ◌==◌, Bool, true, false, List, [], ◌∷◌, take, drop, codes, count_by, Option, Some, None, option_map}
use Rattle.rcv_lexer.specs.Parts.{line_of}
use Rattle.rcv_replay.specs.declared.cut.Cut.{Cut}

-- The cut by a line at this place, with its end of so many bytes.
abbrev pub cut_at : ℕ → ℕ → Cut
cut_at place len = record { end = place; behind = place + len }

-- The cut at the front of a text at a place, if a line begins there and is exactly `%% journal`. A line ends at a line feed or at the end
-- of the text, and a carriage return before the line feed isn't part of it.
abbrev pub here : Bool → ℕ → List ℕ → Option Cut
here false place text = None
here true place text = option_map (cut_at place) (line_of (codes "%% journal") text)

abbrev pub or_else : Option Cut → Option Cut → Option Cut
or_else None other = other
or_else (Some cut) other = Some cut

-- The first cut in a text that begins at a place, at the start of a line or not.
abbrev pub first_from : Bool → ℕ → List ℕ → Option Cut
first_from fresh place [] = None
first_from fresh place (b ∷ bs) = or_else (here fresh place (b ∷ bs)) (first_from (b == 10) (place + 1) bs)

-- The cut of an input; none if no line is `%% journal`.
abbrev pub cut_of : List ℕ → Option Cut
cut_of input = first_from true 0 input

-- The bundle before the cut, and the journal's text after it.
abbrev pub bundle_of : List ℕ → Cut → List ℕ
bundle_of input cut = take cut.end input

abbrev pub journal_of : List ℕ → Cut → List ℕ
journal_of input cut = drop cut.behind input

-- How many line feeds stand in a text.
abbrev pub feeds_in : List ℕ → ℕ
feeds_in text = count_by (λ b. b == 10) text

-- How many stand before the journal's text. A line of that text has so many more in the whole input.
abbrev pub feeds_before : List ℕ → Cut → ℕ
feeds_before input cut = feeds_in (take cut.behind input)

-- The number of the line at which an input ends, counted from 1. It is the line after the last line feed.
abbrev pub line_of_end : List ℕ → ℕ
line_of_end input = 1 + feeds_in input
