-- How the lines of a journal follow one another, and what was read of a journal by its first lines.
use Rattle.std.specs.Prelude.{◌≡◌, ◌≤◌, ◌⊎◌, ℕ, Bool, true, false, if◌then◌else◌, List, [], ◌∷◌, ◌++◌, All, length, map, slice_get, MatchBool, Some}
use Rattle.rcv_session.specs.Session.{SessionView, roles_of}
use Rattle.rcv_journal.specs.declared.line.RoleLine.{RoleLine}
use Rattle.rcv_journal.specs.JournalText.{entry_line, role_line}
use Rattle.rcv_journal.specs.Recorded.{JournalView}
use Rattle.rcv_journal.specs.Form.{IsFormedEntry, end_line, FitsLine, AreLimited}
use Rattle.rcv_lines.specs.Line.{LineView, EntryLine, RoleLineOf, EndLine, SaysLine}

-- What was read so far: the entries and the lines of roles, and whether the last line was read too.
pub record ReadingView : Type 0 where
  pub journal : JournalView
  pub over : Bool

abbrev pub nothing_read : ReadingView
nothing_read = record { journal = record { entries = []; roles = []; limited = [] }; over = false }

-- The line may come after so many lines of roles: an entry after none, the roles in order, the last line after all.
abbrev pub MayCome : ℕ → ℕ → LineView → Type 0
MayCome roles n (EntryLine e) = n ≡ 0
MayCome roles n (RoleLineOf line) = line.role ≡ n
MayCome roles n (EndLine limited) = n ≡ roles

-- The line may come next. None comes after the last one.
abbrev pub Follows : ℕ → ReadingView → LineView → Type 0
Follows roles r said = (r.over ≡ false) × MayCome roles (length r.journal.roles) said

-- What was read, with one more line.
abbrev pub with_line : ReadingView → LineView → ReadingView
with_line r (EntryLine e) = record {
  journal = record { entries = r.journal.entries ++ e ∷ []; roles = r.journal.roles; limited = r.journal.limited };
  over = r.over;
}
with_line r (RoleLineOf line) = record {
  journal = record { entries = r.journal.entries; roles = r.journal.roles ++ line ∷ []; limited = r.journal.limited };
  over = r.over;
}
with_line r (EndLine limited) = record {
  journal = record { entries = r.journal.entries; roles = r.journal.roles; limited = limited };
  over = true;
}

-- The last line, if it was read.
abbrev pub end_read : SessionView → Bool → List ℕ → List (List ℕ)
end_read setup over limited = if over then end_line setup limited ∷ [] else []

-- The lines that were read.
abbrev pub lines_read : SessionView → ReadingView → List (List ℕ)
lines_read setup r =
    map (entry_line setup) r.journal.entries ++ map (role_line setup) r.journal.roles ++ end_read setup r.over r.journal.limited

-- These are the first lines of some text of the form, and this was read of it.
pub record IsRead (setup : SessionView) (lines : List (List ℕ)) (r : ReadingView) : Type 0 where
  pub entries : All (IsFormedEntry setup) r.journal.entries
  pub in_order : (q : ℕ) (line : RoleLine) → slice_get r.journal.roles q ≡ Some line → line.role ≡ q
  pub fit : All FitsLine r.journal.roles
  pub few : length r.journal.roles ≤ roles_of setup
  pub limited : AreLimited setup r.journal.limited
  pub all : r.over ≡ true → length r.journal.roles ≡ roles_of setup
  pub are_lines : lines ≡ lines_read setup r

-- The line may come next, and was read; or it can't come.
abbrev pub Takes : ℕ → ReadingView → LineView → Bool → ReadingView → Type 0
Takes roles old said taken new = MatchBool taken (Follows roles old said × (new ≡ with_line old said)) (Follows roles old said → ⊥)

-- What a line's text says may come next, and was read; or the text says nothing, or what can't come.
abbrev pub TakesText : SessionView → ReadingView → List ℕ → Bool → ReadingView → Type 0
TakesText setup old text taken new =
    MatchBool taken
    ((said : LineView) × SaysLine setup text said × Follows (roles_of setup) old said × (new ≡ with_line old said))
    (((said : LineView) → SaysLine setup text said → ⊥)
    ⊎ ((said : LineView) × SaysLine setup text said × (Follows (roles_of setup) old said → ⊥)))
