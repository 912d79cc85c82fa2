-- What holds of sections.
use Rattle.std.specs.Prelude.{◌≡◌, ◌+◌, ◌<◌, ◌≤◌, ℕ, true, false, List, [], length, slice_index_or, All}
use Rattle.rcv_joined.specs.Joined.{joined}
use Rattle.rcv_section.specs.Lines.{IsWhole, LineAt}
use Rattle.rcv_section.specs.Sections.{IsHeading, IsSection, section_text}
use Rattle.rcv_section.specs.declared.section.Section.{Section}

-- A session has one section at most.
abbrev pub OneSection : Type 0
OneSection = (number : ℕ) (text : List ℕ) (a b : Section) → IsSection number text a → IsSection number text b → a ≡ b

-- The text is whole lines, none of which begins `session `.
pub record IsPlain (text : List ℕ) : Type 0 where
  pub whole : IsWhole true text
  pub quiet : (place : ℕ) → LineAt IsHeading true text place → ⊥

-- Of such texts, one after another, each after its line, section I is text I.
abbrev pub SectionsAreTexts : Type 0
SectionsAreTexts =
    (texts : List (List ℕ)) (i : ℕ) → length texts ≤ 64 → All IsPlain texts → i < length texts
    → (section : Section) × IsSection (i + 1) (joined false 0 texts) section
    × (section_text (joined false 0 texts) section ≡ slice_index_or texts i [])
