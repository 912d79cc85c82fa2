-- Laws of judged journals.
use Rattle.std.specs.Prelude.{◌≡◌, ◌⊎◌, ℕ, List}
use Rattle.rcv_tree.specs.declared.entry.Entry.{Entry}
use Rattle.rcv_model.specs.Net.{HasTwoEnds}
use Rattle.rcv_model.specs.Next.{IsProper, LanesEnd}
use Rattle.rcv_model.specs.Journal.{Rules, State, reading, May, IsLegal}
use Rattle.rcv_theory.specs.Round.{role_of}
use Rattle.rcv_journal.specs.declared.line.RoleLine.{RoleLine}
use Rattle.rcv_judge.specs.Closing.{Closes, IsFirstWrongClosing}
use Rattle.rcv_judge.specs.Judged.{IsFirstWrong}

-- At most one entry is the first wrong one, and none is in a legal journal.
pub record OneIsFirst (rules : Rules) (entries : List Entry) (k l : ℕ) : Type 0 where
  pub same : IsFirstWrong rules entries k → IsFirstWrong rules entries l → k ≡ l
  pub none : IsLegal rules entries → IsFirstWrong rules entries k → ⊥

abbrev pub OneEntryIsFirstWrong : Type 0
OneEntryIsFirstWrong = (rules : Rules) (entries : List Entry) (k l : ℕ) → OneIsFirst rules entries k l

-- Each list of entries is a legal journal, or has a first wrong entry.
abbrev pub EntriesAreJudged : Type 0
EntriesAreJudged =
    (rules : Rules) (entries : List Entry) → IsProper rules.net rules.roles → LanesEnd rules.net
    → IsLegal rules entries ⊎ ((k : ℕ) × IsFirstWrong rules entries k)

-- Of one role at most one entry may come.
abbrev pub EntriesOfARoleAreOne : Type 0
EntriesOfARoleAreOne =
    (rules : Rules) (s : State) (d e : Entry) → HasTwoEnds rules.net → role_of d ≡ role_of e → May rules s d → May rules s e
    → d ≡ e

-- At most one closing line is the first wrong one. If the journal closes right, none is.
pub record OneClosing (rules : Rules) (s : State) (roles : List RoleLine) (limited : List ℕ) (k l : ℕ) : Type 0 where
  pub same : IsFirstWrongClosing rules s roles limited k → IsFirstWrongClosing rules s roles limited l → k ≡ l
  pub none : Closes rules s roles limited → IsFirstWrongClosing rules s roles limited k → ⊥

abbrev pub OneClosingIsFirstWrong : Type 0
OneClosingIsFirstWrong =
    (rules : Rules) (s : State) (roles : List RoleLine) (limited : List ℕ) (k l : ℕ) → OneClosing rules s roles limited k l

-- Closing lines are right, or they aren't.
abbrev pub ClosingsAreJudged : Type 0
ClosingsAreJudged =
    (rules : Rules) (entries : List Entry) (roles : List RoleLine) (limited : List ℕ) → IsProper rules.net rules.roles
    → LanesEnd rules.net → IsLegal rules entries
    → Closes rules (reading rules entries) roles limited ⊎ (Closes rules (reading rules entries) roles limited → ⊥)
