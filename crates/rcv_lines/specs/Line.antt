-- What one line of a journal says, and the fields that its text has between its spaces.
use Rattle.std.specs.Prelude.{◌≡◌, ◌<◌, ◌^◌, ℕ, List}
use Rattle.rcv_tree.specs.declared.entry.Entry.{Entry}
use Rattle.rcv_session.specs.Session.{SessionView, roles_of}
use Rattle.rcv_journal.specs.declared.line.RoleLine.{RoleLine}
use Rattle.rcv_journal.specs.JournalText.{entry_line, role_line}
use Rattle.rcv_journal.specs.Form.{IsFormedEntry, AreLimited, end_line}

-- An entry, how a role ended, or how the session ended: the roles at the limit, or none if it is completed.
pub data LineView : Type 0 where
  EntryLine : (entry : Entry) → LineView
  RoleLineOf : (line : RoleLine) → LineView
  EndLine : (limited : List ℕ) → LineView

-- A declared role's line, with numbers that fit their types.
pub record IsFormedRoleLine (setup : SessionView) (line : RoleLine) : Type 0 where
  pub role : line.role < roles_of setup
  pub kept : line.kept < 2 ^ 32
  pub raw : line.raw < 2 ^ 32

abbrev pub IsFormedLine : SessionView → LineView → Type 0
IsFormedLine setup (EntryLine entry) = IsFormedEntry setup entry
IsFormedLine setup (RoleLineOf line) = IsFormedRoleLine setup line
IsFormedLine setup (EndLine limited) = AreLimited setup limited

-- The text of the line, with its line feed.
abbrev pub line_text : SessionView → LineView → List ℕ
line_text setup (EntryLine entry) = entry_line setup entry
line_text setup (RoleLineOf line) = role_line setup line
line_text setup (EndLine limited) = end_line setup limited

-- The text, with its line feed, says this.
abbrev pub SaysLine : SessionView → List ℕ → LineView → Type 0
SaysLine setup text said = IsFormedLine setup said × (text ≡ line_text setup said)
