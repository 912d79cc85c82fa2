-- The laws of journals that are read back.
use Rattle.std.specs.Prelude.{◌≡◌, ℕ, List, ◌++◌, codes}
use Rattle.serde_json.specs.Written.{compact_text}
use Rattle.rcv_tree.specs.declared.protocol.Protocol.{Protocol}
use Rattle.rcv_accept.specs.Accepted.{IsAcceptedProtocol}
use Rattle.rcv_journal.specs.Recorded.{JournalView, bare}
use Rattle.rcv_journal.specs.Form.{IsFormed}
use Rattle.rcv_journal.specs.Json.{formed_data}
use Rattle.rcv_json_reader.specs.Reading.{IsReadAs}

-- A text is read as at most one journal.
abbrev pub TextsHaveOneJournal : Type 0
TextsHaveOneJournal =
    (p : Protocol) (text : List ℕ) (a b : JournalView) → IsAcceptedProtocol p → IsReadAs p text a → IsReadAs p text b → a ≡ b

-- The line of a journal of the form is read as that journal.
abbrev pub LinesAreReadBack : Type 0
LinesAreReadBack =
    (p : Protocol) (text : List ℕ) (j : JournalView) → IsAcceptedProtocol p → IsFormed (bare p) j
    → text ≡ compact_text (formed_data (bare p) j) ++ codes "\n" → IsReadAs p text j
