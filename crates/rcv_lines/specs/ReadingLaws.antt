-- What holds of the texts of journals.
use Rattle.std.specs.Prelude.{◌≡◌, ◌⊎◌, ℕ, List, flat_map}
use Rattle.rcv_tree.specs.declared.protocol.Protocol.{Protocol}
use Rattle.rcv_accept.specs.Accepted.{IsAcceptedProtocol}
use Rattle.rcv_session.specs.Session.{SessionView}
use Rattle.rcv_journal.specs.Recorded.{JournalView, bare}
use Rattle.rcv_journal.specs.Form.{IsFormed, Spells, IsFirstWrong, journal_lines}

-- The text of a journal of the form is read as this journal.
abbrev pub JournalsAreReadBack : Type 0
JournalsAreReadBack =
    (protocol : Protocol) (j : JournalView)
    → IsAcceptedProtocol protocol → IsFormed (bare protocol) j
    → Spells (bare protocol) (flat_map (λ line. line) (journal_lines (bare protocol) j)) j

-- A text says at most one journal.
abbrev pub TextsHaveOneJournal : Type 0
TextsHaveOneJournal =
    (protocol : Protocol) (text : List ℕ) (a b : JournalView)
    → IsAcceptedProtocol protocol → Spells (bare protocol) text a → Spells (bare protocol) text b → a ≡ b

-- A text with a wrong line says none.
abbrev pub WrongTextsHaveNoJournal : Type 0
WrongTextsHaveNoJournal =
    (session : SessionView) (text : List ℕ) (k : ℕ) (j : JournalView)
    → IsFirstWrong session text k → Spells session text j → ⊥

-- Each text says a journal, or has a first wrong line.
abbrev pub TextsAreTakenOrWrong : Type 0
TextsAreTakenOrWrong =
    (protocol : Protocol) (text : List ℕ) → IsAcceptedProtocol protocol
    → ((j : JournalView) × Spells (bare protocol) text j) ⊎ ((k : ℕ) × IsFirstWrong (bare protocol) text k)

-- At most one line is the first wrong one.
abbrev pub OneLineIsFirstWrong : Type 0
OneLineIsFirstWrong =
    (session : SessionView) (text : List ℕ) (a b : ℕ) → IsFirstWrong session text a → IsFirstWrong session text b → a ≡ b
