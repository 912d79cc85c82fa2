-- The texts of pieces.
use Rattle.std.specs.Prelude.{◌≡◌, ℕ, Bool, ◌+◌, ◌==◌, ◌&&◌, List, ◌++◌, flat_map, if◌then◌else◌, codes, decimal}
use Rattle.std.specs.Fmt.{signed_decimal}
use Rattle.rcv_scene.specs.declared.wording.Piece.{Piece}
use Rattle.rcv_scene.specs.declared.wording.Piece.TheVariants.{Word, Number, Place, Count, Value}

-- A word, a number, the number of the entry at a place (counted from 1), a count, or a value.
abbrev pub piece_text : Piece → List ℕ
piece_text (Word word) = word.now
piece_text (Number number) = decimal number
piece_text (Place place) = decimal (place + 1)
piece_text (Count count) = decimal count
piece_text (Value value) = signed_decimal value

abbrev pub pieces_text : List Piece → List ℕ
pieces_text pieces = flat_map piece_text pieces

-- A number with a word. The word is another one unless the number is 1.
abbrev pub counted : ℕ → List ℕ → List ℕ → List ℕ
counted number one many = decimal number ++ (if number == 1 then one else many)

-- `1 event undone`, or `N events undone`.
abbrev pub undone_words : ℕ → List ℕ
undone_words undone = counted undone (codes " event undone") (codes " events undone")

-- `1 entry`, or `N entries`.
abbrev pub entries_words : ℕ → List ℕ
entries_words entries = counted entries (codes " entry") (codes " entries")

abbrev pub crash_words : ℕ → ℕ → List ℕ
crash_words crashes recoveries =
    counted crashes (codes " crash, ") (codes " crashes, ") ++ counted recoveries (codes " recovery") (codes " recoveries")

-- There are none of either.
abbrev pub is_calm : ℕ → ℕ → Bool
is_calm crashes recoveries = (crashes == 0) && (recoveries == 0)

-- `C crashes, V recoveries`, or `no crash here`.
abbrev pub failure_words : ℕ → ℕ → List ℕ
failure_words crashes recoveries =
    if is_calm crashes recoveries then codes "no crash here"
    else crash_words crashes recoveries

-- `WHO recovers`
pub record SaysRecovers (text : List ℕ) : Type 0 where
  pub who : List ℕ
  pub is : text ≡ who ++ codes " recovers"
