-- What contracts see of a journal that was read back.
use Rattle.std.specs.Prelude.{ℕ, List, []}
use Rattle.rcv_tree.specs.declared.entry.Entry.{Entry}
use Rattle.rcv_tree.specs.declared.protocol.Protocol.{Protocol}
use Rattle.rcv_session.specs.Session.{SessionView}
use Rattle.rcv_journal.specs.declared.line.RoleLine.{RoleLine}

-- Its entries, the lines of the roles, and the roles that the last line names: none if it says `completed`.
pub record JournalView : Type 0 where
  pub entries : List Entry
  pub roles : List RoleLine
  pub limited : List ℕ

-- The protocol as a session without scripts and plan: a journal's text names nothing else of a session.
abbrev pub bare : Protocol → SessionView
bare protocol = record { protocol = protocol; scripts = []; plan = [] }
