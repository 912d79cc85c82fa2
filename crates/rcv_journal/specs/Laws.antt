-- What holds of the definitions.
use Rattle.std.specs.Prelude.{◌≡◌, ℕ, ◌↔◌, List, codes}
use Rattle.rcv_tree.specs.declared.entry.Entry.{Entry}
use Rattle.rcv_model.specs.Journal.{State, IsLegal}
use Rattle.rcv_model.specs.Final.{AreDone}
use Rattle.rcv_accept.specs.Accepted.{IsAcceptedProtocol}
use Rattle.rcv_session.specs.Session.{SessionView, rules_of}
use Rattle.rcv_journal.specs.declared.line.RoleLine.{RoleLine}
use Rattle.rcv_journal.specs.JournalText.{AreNamed, last_line}
use Rattle.rcv_journal.specs.Lines.{AreLinesOf, IsTextOf}

-- Each role and each point in a legal journal has a name, and events are made by the ends of their points.
abbrev pub LegalJournalsAreNamed : Type 0
LegalJournalsAreNamed =
    (setup : SessionView) (entries : List Entry)
    → IsAcceptedProtocol setup.protocol → IsLegal (rules_of setup) entries → AreNamed setup entries

-- A journal has one text.
abbrev pub JournalsHaveOneText : Type 0
JournalsHaveOneText =
    (setup : SessionView) (entries : List Entry) (a b : List ℕ) → IsTextOf setup entries a → IsTextOf setup entries b → a ≡ b

-- The last line is `completed` exactly if all roles are done.
abbrev pub CompletedIsWritten : Type 0
CompletedIsWritten =
    (setup : SessionView) (s : State) (lines : List RoleLine)
    → AreLinesOf (rules_of setup) s lines → (last_line setup lines ≡ codes "completed\n") ↔ AreDone (rules_of setup) s
