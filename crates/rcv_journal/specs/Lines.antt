-- What the lines of the roles say of a journal, and which text is the journal's.
use Rattle.std.specs.Prelude.{◌≡◌, ◌≢◌, ℕ, if◌then◌else◌, List, [], ◌∷◌, length, slice_get, Some}
use Rattle.rcv_tree.specs.declared.entry.Entry.{Entry}
use Rattle.rcv_model.specs.Run.{acts}
use Rattle.rcv_model.specs.Act.{IsDone}
use Rattle.rcv_model.specs.Journal.{Rules, State, numbers_at, reading}
use Rattle.rcv_session.specs.Session.{SessionView, rules_of}
use Rattle.rcv_journal.specs.declared.line.RoleLine.{RoleLine}
use Rattle.rcv_journal.specs.declared.line.RoleWord.{RoleWord}
use Rattle.rcv_journal.specs.declared.line.RoleWord.TheVariants.{Done, Limit, Waits}
use Rattle.rcv_journal.specs.JournalText.{is_limit, journal_text}

-- The word of role r: done if nothing is next; else limit if its raw count is the limit; else waits.
abbrev pub IsWordOf : Rules → State → ℕ → RoleWord → Type 0
IsWordOf rules s r Done = IsDone rules.net r s.kept
IsWordOf rules s r Limit = (IsDone rules.net r s.kept → ⊥) × ((numbers_at s.roles r).raw ≡ rules.limit)
IsWordOf rules s r Waits = (IsDone rules.net r s.kept → ⊥) × ((numbers_at s.roles r).raw ≢ rules.limit)

-- The line of role r: how many of its events are kept, how many it made, and its word.
pub record IsLineOf (rules : Rules) (s : State) (r : ℕ) (line : RoleLine) : Type 0 where
  pub role : line.role ≡ r
  pub kept : line.kept ≡ length (acts r s.kept)
  pub raw : line.raw ≡ (numbers_at s.roles r).raw
  pub word : IsWordOf rules s r line.word

-- One line for each role, in order.
pub record AreLinesOf (rules : Rules) (s : State) (lines : List RoleLine) : Type 0 where
  pub all : length lines ≡ rules.roles
  pub each : (r : ℕ) (line : RoleLine) → slice_get lines r ≡ Some line → IsLineOf rules s r line

-- The roles whose lines say that they are at the limit, in order.
abbrev pub limited_in : List RoleLine → List ℕ
limited_in [] = []
limited_in (line ∷ lines) = if is_limit line.word then line.role ∷ limited_in lines else limited_in lines

-- The bytes are the text of this journal.
pub record IsTextOf (setup : SessionView) (entries : List Entry) (bytes : List ℕ) : Type 0 where
  pub lines : List RoleLine
  pub are_lines : AreLinesOf (rules_of setup) (reading (rules_of setup) entries) lines
  pub is_text : bytes ≡ journal_text setup entries lines
