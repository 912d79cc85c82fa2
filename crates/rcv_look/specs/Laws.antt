-- What holds of the definitions.
use Rattle.std.specs.Prelude.{◌≡◌, ◌+◌, ◌<◌, ◌≤◌, ℕ, false, List, [], length, slice_index_or, All}
use Rattle.clap.specs.Words.{Text}
use Rattle.rcv_session.specs.Session.{SessionView}
use Rattle.rcv_journal.specs.Form.{Spells}
use Rattle.rcv_journal.specs.Recorded.{JournalView}
use Rattle.rcv_joined.specs.Joined.{joined}
use Rattle.rcv_section.specs.declared.section.Section.{Section}
use Rattle.rcv_section.specs.Sections.{IsSection, section_text}
use Rattle.rcv_look.specs.Commands.{CommandView, IsCommand}

-- Words are one command at most.
abbrev pub WordsAreOneCommand : Type 0
WordsAreOneCommand = (words : List Text) (a b : CommandView) → IsCommand words a → IsCommand words b → a ≡ b

-- The text is that of a journal of the form.
abbrev pub IsOfForm : SessionView → List ℕ → Type 0
IsOfForm session text = (j : JournalView) × Spells session text j

-- If journals of the form stand one after another, each after the line of its session, section I is journal I.
abbrev pub SectionsAreJournals : Type 0
SectionsAreJournals =
    (session : SessionView) (texts : List (List ℕ)) (i : ℕ) → length texts ≤ 64 → All (IsOfForm session) texts
    → i < length texts
    → (section : Section) × IsSection (i + 1) (joined false 0 texts) section
    × (section_text (joined false 0 texts) section ≡ slice_index_or texts i [])
