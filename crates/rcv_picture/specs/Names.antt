-- Names that are made to fit: cut, or broken into lines.
use Rattle.std.specs.Prelude.{◌≡◌, ℕ, Bool, true, false, ◌+◌, ◌-◌, ◌/◌, ◌<◌, ◌≤◌, ◌==◌, ◌&&◌, ◌||◌, List, [], ◌∷◌, ◌++◌, length, flat_map, slice_index_or}
use Rattle.std.specs.Borrow.{Bor}
use Rattle.std.specs.Char.{is_ascii_lowercase, is_ascii_uppercase}

-- These texts put together, one after another.
abbrev pub joined : List (Bor (List ℕ)) → List ℕ
joined texts = flat_map (λ t. t.now) texts

-- `…`
abbrev pub ellipsis : List ℕ
ellipsis = 226 ∷ 128 ∷ 166 ∷ []

-- A front, `…`, and an end.
abbrev pub cut_words : List ℕ → List ℕ → List ℕ
cut_words front back = front ++ ellipsis ++ back

-- A name that is too long is cut: a front of it, `…`, and an end of it, so many letters in all, a third of them at the end.
pub record IsCut (most : ℕ) (name text : List ℕ) : Type 0 where
  pub front : List ℕ
  pub middle : List ℕ
  pub back : List ℕ
  pub whole : name ≡ front ++ (middle ++ back)
  pub letters : length front + 1 + length back ≡ most
  pub third : length back ≡ most / 3
  pub is : text ≡ cut_words front back

-- A name made to fit: as it is if it has at most so many letters, else cut.
pub data IsShortened (most : ℕ) (name text : List ℕ) : Type 0 where
  as_it_is : length name ≤ most → text ≡ name → IsShortened most name text
  too_long : most < length name → IsCut most name text → IsShortened most name text

-- A name may be broken after `_`, and between a small letter and a capital one.
abbrev pub is_seam : ℕ → ℕ → Bool
is_seam before after = (before == 95) || (is_ascii_lowercase before && is_ascii_uppercase after)

-- It may be broken after so many letters.
abbrev pub is_seam_at : List ℕ → ℕ → Bool
is_seam_at name letters = is_seam (slice_index_or name (letters - 1) 0) (slice_index_or name letters 0)

-- From so many letters on, up to fewer than so many, it may not be broken.
abbrev pub HasNoSeam : List ℕ → ℕ → ℕ → Type 0
HasNoSeam name from to = (letters : ℕ) → from ≤ letters → letters < to → is_seam_at name letters ≡ false

-- Among the ends from 7 up to fewer than so many letters this one is the last seam; if there is none, it is after 14 letters.
pub data IsEndBefore (name : List ℕ) (to end : ℕ) : Type 0 where
  at_seam : 7 ≤ end → end < to → is_seam_at name end ≡ true → HasNoSeam name (end + 1) to → IsEndBefore name to end
  full_line : end ≡ 14 → HasNoSeam name 7 to → IsEndBefore name to end

-- The first line of a longer name ends at its last seam after 7 to 14 letters; if there is none, after 14 letters.
abbrev pub IsLineEnd : List ℕ → ℕ → Type 0
IsLineEnd name end = IsEndBefore name 15 end

-- The lines of a name: one if it has at most 14 letters, else a first line and the lines of what comes after it.
pub data AreLinesOf : List ℕ → List (Bor (List ℕ)) → Type 0 where
  one_line : (name : List ℕ) (line : Bor (List ℕ)) → length name ≤ 14 → line.now ≡ name → AreLinesOf name (line ∷ [])
  more_lines : (name rest : List ℕ) (line : Bor (List ℕ)) (lines : List (Bor (List ℕ))) → 14 < length name → line.now ++ rest ≡ name
      → IsLineEnd name (length line.now) → AreLinesOf rest lines → AreLinesOf name (line ∷ lines)
