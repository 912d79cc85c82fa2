-- Which journal a JSON text is read as.
use Rattle.std.specs.Prelude.{◌≡◌, ℕ, List, Some}
use Rattle.std.specs.Str.{IsUtf8}
use Rattle.serde_json.specs.Read.{read}
use Rattle.rcv_tree.specs.declared.protocol.Protocol.{Protocol}
use Rattle.rcv_journal.specs.Recorded.{JournalView, bare}
use Rattle.rcv_journal.specs.Form.{IsFormed}
use Rattle.rcv_journal.specs.Json.{formed_data}

-- The journal is of the form, and what is read of the text is its value.
pub record IsReadAs (protocol : Protocol) (text : List ℕ) (j : JournalView) : Type 0 where
  pub formed : IsFormed (bare protocol) j
  pub utf8 : IsUtf8 text
  pub value : read text ≡ Some (formed_data (bare protocol) j)
