-- What is said of a wrong token.
use Rattle.std.specs.Prelude.{ℕ, ◌==◌, nat_le, slice_index_or, if◌then◌else◌, codes, decimal, List, [], ◌∷◌, ◌++◌, flat_map, length, take, slice_range}
use Rattle.rcv_found.specs.Things.{ThingView, said_of, quoted}
use Rattle.rcv_found.specs.declared.spot.Spot.{Spot}
use Rattle.rcv_found.specs.declared.wrong.Wrong.{Wrong}

-- The bytes of a token in quotes: of a long one the first 64, and that there are more.
abbrev pub shown_length : ℕ → ℕ
shown_length n = if nat_le n 64 then n else 64

abbrev pub rest_words : ℕ → List ℕ
rest_words n = if nat_le n 64 then [] else codes " and more"

abbrev pub cut_words : List ℕ → List ℕ
cut_words word = quoted (take (shown_length (length word)) word) ++ rest_words (length word)

-- What was found: a token by its bytes, unless these begin with a quote; or the end, which has none.
abbrev pub found_words : List ℕ → List ℕ
found_words word =
    if length word == 0 then codes "the end of the text"
    else (if slice_index_or word 0 0 == 34 then codes "a text in quotes" else cut_words word)

-- What a bad letter begins: by its first byte, or the word or letter itself.
abbrev pub letter_words : List ℕ → List ℕ
letter_words word =
    if slice_index_or word 0 0 == 34 then codes "a text in quotes that doesn't end on its line, or is too long"
    else (if slice_index_or word 0 0 == 47 then codes "\"/\", which begins no comment that ends" else cut_words word)

-- A refusal by 10 is at a bad letter.
abbrev pub what_words : ℕ → List ℕ → List ℕ
what_words code word = if code == 10 then letter_words word else found_words word

-- found WHAT at line LINE, column COLUMN
abbrev pub found_text : List ℕ → ℕ → Spot → List ℕ
found_text input code spot =
    codes "found " ++ what_words code (slice_range input spot.span.start spot.span.end) ++ codes " at line " ++ decimal spot.line
    ++ codes ", column " ++ decimal spot.column ++ codes "\n"

-- may stand here: THING, THING ..
abbrev pub next_text : ThingView → List ℕ
next_text x = codes ", " ++ said_of x

abbrev pub listed_text : ThingView → List ThingView → List ℕ
listed_text x xs = codes "may stand here: " ++ said_of x ++ flat_map next_text xs ++ codes "\n"

abbrev pub may_text : List ThingView → List ℕ
may_text [] = []
may_text (x ∷ xs) = listed_text x xs

-- Both lines.
abbrev pub wrong_text : List ℕ → Wrong → List ℕ
wrong_text input wrong = found_text input wrong.code wrong.spot ++ may_text wrong.may.items
