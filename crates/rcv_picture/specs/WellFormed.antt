-- Documents that are well formed: nested elements with equal names at both ends, attributes with distinct names, and
-- texts and values in which bytes that mark up stand only as entities.
use Rattle.std.specs.Prelude.{◌≡◌, ◌⊎◌, ℕ, Bool, true, false, not, ◌&&◌, ◌||◌, ◌==◌, List, [], ◌∷◌, ◌++◌, codes, bytes_eq}
use Rattle.std.specs.Char.{is_ascii_digit, is_ascii_alphabetic}
use Rattle.rcv_picture.specs.Tree.{is_shown}

-- a letter, a digit, `-` or `:`
abbrev pub is_name_byte : ℕ → Bool
is_name_byte c = is_ascii_alphabetic c || (is_ascii_digit c || ((c == 45) || (c == 58)))

abbrev pub are_name_bytes : List ℕ → Bool
are_name_bytes [] = true
are_name_bytes (c ∷ cs) = is_name_byte c && are_name_bytes cs

-- A letter, and such bytes after it.
abbrev pub is_name : List ℕ → Bool
is_name [] = false
is_name (c ∷ cs) = is_ascii_alphabetic c && are_name_bytes cs

-- whether a name is one of these
abbrev pub is_among : List ℕ → List (List ℕ) → Bool
is_among name [] = false
is_among name (n ∷ ns) = bytes_eq name n || is_among name ns

abbrev pub IsEntity : List ℕ → Type 0
IsEntity e = (e ≡ codes "&amp;") ⊎ ((e ≡ codes "&lt;") ⊎ ((e ≡ codes "&gt;") ⊎ (e ≡ codes "&quot;")))

-- A byte that stands for itself in a text: no `<` and no `&`; in a value no `"` either.
abbrev pub is_plain : ℕ → Bool
is_plain c = is_shown c && (not (c == 60) && not (c == 38))

abbrev pub is_plain_in_value : ℕ → Bool
is_plain_in_value c = is_plain c && not (c == 34)

-- What stands between the quotes of a value.
pub data IsValue : List ℕ → Type 0 where
  EndOfValue : IsValue []
  ByteOfValue : (c : ℕ) (rest : List ℕ) → is_plain_in_value c ≡ true → IsValue rest → IsValue (c ∷ rest)
  EntityOfValue : (entity rest : List ℕ) → IsEntity entity → IsValue rest → IsValue (entity ++ rest)

-- ` name="value"` for each attribute, and the names: no two are equal.
pub data AreAttributes : List (List ℕ) → List ℕ → Type 0 where
  NoAttribute : AreAttributes [] []
  OneAttribute :
      (name value : List ℕ) (names : List (List ℕ)) (rest : List ℕ)
      → is_name name ≡ true → is_among name names ≡ false → IsValue value → AreAttributes names rest
      → AreAttributes (name ∷ names) ((codes " " ++ name ++ codes "=\"" ++ value ++ codes "\"") ++ rest)

-- What stands between the tags of an element; and an element, which is `<name ../>`, or `<name ..>` and `</name>` with
-- something between them.
mutual
  pub data IsContent : List ℕ → Type 0 where
    EndOfContent : IsContent []
    ByteOfContent : (c : ℕ) (rest : List ℕ) → is_plain c ≡ true → IsContent rest → IsContent (c ∷ rest)
    EntityOfContent : (entity rest : List ℕ) → IsEntity entity → IsContent rest → IsContent (entity ++ rest)
    ElementOfContent : (element rest : List ℕ) → IsElement element → IsContent rest → IsContent (element ++ rest)

  pub data IsElement : List ℕ → Type 0 where
    OneTag :
        (name : List ℕ) (names : List (List ℕ)) (attributes : List ℕ)
        → is_name name ≡ true → AreAttributes names attributes
        → IsElement (codes "<" ++ name ++ attributes ++ codes "/>")
    TwoTags :
        (name : List ℕ) (names : List (List ℕ)) (attributes content : List ℕ)
        → is_name name ≡ true → AreAttributes names attributes → IsContent content
        → IsElement (codes "<" ++ name ++ attributes ++ codes ">" ++ content ++ (codes "</" ++ name ++ codes ">"))

-- A document is one element.
abbrev pub IsDocument : List ℕ → Type 0
IsDocument text = IsElement text
