-- What a session of a taken input wrote is read back as its journal.
use Rattle.std.specs.Prelude.{ℕ, List}
use Rattle.rcv_tree.specs.declared.entry.Entry.{Entry}
use Rattle.rcv_model.specs.Journal.{IsLegal, reading}
use Rattle.rcv_model.specs.Final.{IsFinal}
use Rattle.rcv_session.specs.Session.{SessionView, rules_of}
use Rattle.rcv_journal.specs.declared.line.RoleLine.{RoleLine}
use Rattle.rcv_journal.specs.Lines.{AreLinesOf, IsTextOf, limited_in}
use Rattle.rcv_journal.specs.Json.{IsJsonOf}
use Rattle.rcv_input.specs.Input.{IsTaken}
use Rattle.rcv_lines.specs.FinalTexts.{IsReadAsJournal}
use Rattle.rcv_json_reader.specs.Reading as json

-- If a journal of a session that an input is taken as is legal and final, its text is read as its entries, its roles' lines
-- and those at the limit.
abbrev pub TakenTextsAreReadBack : Type 0
TakenTextsAreReadBack =
    (input : List ℕ) (session : SessionView) (entries : List Entry) (bytes : List ℕ)
    → IsTaken input session → IsLegal (rules_of session) entries
    → IsFinal (rules_of session) (reading (rules_of session) entries) → IsTextOf session entries bytes
    → IsReadAsJournal session entries bytes

-- The bytes are read, as JSON, as the journal's entries, its lines of roles, and those of them that are at the limit.
abbrev pub IsJsonReadAs : SessionView → List Entry → List ℕ → Type 0
IsJsonReadAs session entries bytes =
    (lines : List RoleLine) × AreLinesOf (rules_of session) (reading (rules_of session) entries) lines
    × json.IsReadAs session.protocol bytes (record { entries = entries; roles = lines; limited = limited_in lines })

-- The same holds for the JSON of each such journal.
abbrev pub TakenJsonIsReadBack : Type 0
TakenJsonIsReadBack =
    (input : List ℕ) (session : SessionView) (entries : List Entry) (bytes : List ℕ)
    → IsTaken input session → IsLegal (rules_of session) entries
    → IsFinal (rules_of session) (reading (rules_of session) entries) → IsJsonOf session entries bytes
    → IsJsonReadAs session entries bytes
