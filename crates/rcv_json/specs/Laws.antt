-- What holds of the definitions.
use Rattle.std.specs.Prelude.{◌≡◌, ℕ, List}
use Rattle.rcv_tree.specs.declared.entry.Entry.{Entry}
use Rattle.rcv_session.specs.Session.{SessionView}
use Rattle.rcv_journal.specs.Json.{IsJsonOf}

-- A journal has at most one JSON.
abbrev pub JournalsHaveOneJson : Type 0
JournalsHaveOneJson =
    (setup : SessionView) (entries : List Entry) (a b : List ℕ) → IsJsonOf setup entries a → IsJsonOf setup entries b → a ≡ b
