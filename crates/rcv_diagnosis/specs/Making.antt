-- Which entry comes next, if some role can make one.
use Rattle.std.specs.Prelude.{ℕ, ◌<◌, List, Option, MatchOption}
use Rattle.rcv_tree.specs.declared.entry.Entry.{Entry}
use Rattle.rcv_model.specs.Final.{IsLeastOf}
use Rattle.rcv_theory.specs.Round.{role_of}
use Rattle.rcv_session.specs.Session.{SessionView, roles_of}
use Rattle.rcv_core.specs.Book.{BookView}
use Rattle.rcv_journal.specs.JournalText.{IsDeclared}
use Rattle.rcv_judge.specs.declared.could.Could.{Could}
use Rattle.rcv_judge.specs.declared.could.Could.TheVariants.{Make, Awaits, Done, AtLimit}
use Rattle.rcv_judge.specs.Could.{IsOneOf}

-- The book of a session with these entries.
abbrev pub book_of : SessionView → List Entry → BookView
book_of session entries = record { setup = session; entries = entries }

-- The role can make an entry.
abbrev pub CanMake : BookView → ℕ → Type 0
CanMake book r = (e : Entry) × IsOneOf book r e

-- What it can make, or none.
abbrev pub IsMadeBy : BookView → ℕ → Option Entry → Type 0
IsMadeBy book r made = MatchOption made (CanMake book r → ⊥) (IsOneOf book r)

-- The entry of the least role that can make one.
abbrev pub IsLeastMade : BookView → Entry → Type 0
IsLeastMade book e = IsLeastOf (CanMake book) (role_of e) × IsOneOf book (role_of e) e

-- It, or none if no role can.
abbrev pub IsFirstMade : BookView → Option Entry → Type 0
IsFirstMade book made =
    MatchOption made ((r : ℕ) → r < roles_of book.setup → CanMake book r → ⊥) (IsLeastMade book)

-- The roles and points that it names are declared.
abbrev pub IsShown : SessionView → Could → Type 0
IsShown session (Make e) = IsDeclared session e
IsShown session (Awaits from) = from < roles_of session
IsShown session Done = Unit {0}
IsShown session AtLimit = Unit {0}
