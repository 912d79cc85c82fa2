-- What the lines after the entries of a journal must say, and the first of them that says something else.
use Rattle.std.specs.Prelude.{◌≡◌, ◌⊎◌, ℕ, ◌<◌, ◌≤◌, ◌↔◌, Option, Some, MatchOption, List, [], length, slice_get}
use Rattle.rcv_tree.specs.declared.entry.Entry.{Entry}
use Rattle.rcv_model.specs.Journal.{Rules, State, reading}
use Rattle.rcv_model.specs.Final.{IsFinal, AreDone, IsCompleted, IsLimited, HasOneAtLimit}
use Rattle.rcv_session.specs.Session.{SessionView, rules_of}
use Rattle.rcv_core.specs.Book.{BookView, state_of}
use Rattle.rcv_journal.specs.declared.line.RoleLine.{RoleLine}
use Rattle.rcv_journal.specs.Lines.{IsLineOf, AreLinesOf, limited_in}

-- The state after the entries is final. The lines of the roles are those of this state. The last line names those of them that
-- are at the limit: none exactly if all roles are done.
pub record Closes (rules : Rules) (s : State) (roles : List RoleLine) (limited : List ℕ) : Type 0 where
  pub final : IsFinal rules s
  pub lines : AreLinesOf rules s roles
  pub named : limited ≡ limited_in roles
  pub completed : (limited ≡ []) ↔ AreDone rules s

abbrev pub ClosesRight : SessionView → List Entry → List RoleLine → List ℕ → Type 0
ClosesRight session entries roles limited = Closes (rules_of session) (reading (rules_of session) entries) roles limited

-- After the entries, line r, counted from 0, is the line of role r.
abbrev pub HasLineOf : Rules → State → List RoleLine → ℕ → Type 0
HasLineOf rules s roles r = (line : RoleLine) × (slice_get roles r ≡ Some line) × IsLineOf rules s r line

-- The first closing line that is wrong: role by role the lines before it are right, but it isn't; or all of the roles'
-- lines are right, and the last line is wrong, or isn't the next.
pub record IsFirstWrongClosing (rules : Rules) (s : State) (roles : List RoleLine) (limited : List ℕ) (k : ℕ) : Type 0 where
  pub within : k ≤ rules.roles
  pub before : (r : ℕ) → r < k → HasLineOf rules s roles r
  pub role : k < rules.roles → HasLineOf rules s roles k → ⊥
  pub last : k ≡ rules.roles → Closes rules s roles limited → ⊥

-- Line k, counted from 0, is the first of these that isn't found in its place.
pub record IsFirstOther (lines found : List RoleLine) (k : ℕ) : Type 0 where
  pub within : k < length lines
  pub before : (r : ℕ) → r < k → slice_get found r ≡ slice_get lines r
  pub other : slice_get found k ≡ slice_get lines k → ⊥

-- That line, or none if each is found.
abbrev pub IsFound : List RoleLine → List RoleLine → Option ℕ → Type 0
IsFound lines found other =
    MatchOption other ((r : ℕ) → r < length lines → slice_get found r ≡ slice_get lines r) (IsFirstOther lines found)

-- The session is at its end: all roles are done, or one is at the limit.
abbrev pub HasEnded : BookView → Type 0
HasEnded book =
    IsCompleted (rules_of book.setup) (state_of book)
    ⊎ (IsLimited (rules_of book.setup) (state_of book) × HasOneAtLimit (rules_of book.setup) (state_of book))
