-- Which bytes of a text are those of a session, if the texts of several sessions stand one after another, each after a line that says which
-- session it is.
use Rattle.std.specs.Prelude.{◌≡◌, ◌+◌, ◌-◌, ◌<◌, ◌≤◌, ℕ, ◌⊎◌, true, nat_eq, codes, decimal, List, ◌++◌, length, take, drop, Some}
use Rattle.std.specs.List.{starts_with}
use Rattle.rcv_lexer.specs.Parts.{line_of}
use Rattle.rcv_section.specs.Lines.{LineAt}
use Rattle.rcv_section.specs.declared.section.Section.{Section}

-- What every line begins with that says which session comes after it.
abbrev pub heading_word : List ℕ
heading_word = codes "session "

-- The line of session I, without its end.
abbrev pub title : ℕ → List ℕ
title number = heading_word ++ decimal number

-- The first line of a text is exactly this one, and has so many bytes with its end. A line ends at a line feed or at
-- the end of the text, and a carriage return before the line feed isn't part of it.
abbrev pub IsTitle : List ℕ → ℕ → List ℕ → Type 0
IsTitle word len text = line_of word text ≡ Some len

-- The first line of a text begins so.
abbrev pub IsHeading : List ℕ → Type 0
IsHeading text = starts_with nat_eq text heading_word ≡ true

-- The first line of a text that is exactly this one: where it stands, and how many bytes it has with its end.
pub record IsFirstTitle (word text : List ℕ) (place len : ℕ) : Type 0 where
  pub is_title : LineAt (IsTitle word len) true text place
  pub is_first : (earlier size : ℕ) → earlier < place → LineAt (IsTitle word size) true text earlier → ⊥

-- The front of so many bytes reaches up to the first line that begins `session `, or to the end.
pub record IsFront (text : List ℕ) (size : ℕ) : Type 0 where
  pub within : size ≤ length text
  pub clear : (place : ℕ) → place < size → LineAt IsHeading true text place → ⊥
  pub up_to : (size ≡ length text) ⊎ LineAt IsHeading true text size

-- The section of session I begins after the first line that is exactly `session I`, and reaches up to the next line that begins `session `,
-- or to the end.
pub record IsSection (number : ℕ) (text : List ℕ) (section : Section) : Type 0 where
  pub place : ℕ
  pub len : ℕ
  pub size : ℕ
  pub is_title : IsFirstTitle (title number) text place len
  pub begins : section.begin ≡ place + len
  pub ends : section.end ≡ section.begin + size
  pub is_front : IsFront (drop section.begin text) size

-- No line is `session I`.
abbrev pub HasNoSection : ℕ → List ℕ → Type 0
HasNoSection number text = (place len : ℕ) → LineAt (IsTitle (title number) len) true text place → ⊥

-- The bytes of a section.
abbrev pub section_text : List ℕ → Section → List ℕ
section_text text section = take (section.end - section.begin) (drop section.begin text)
