-- What `table` makes of a protocol.
use Rattle.std.specs.Prelude.{◌≡◌, ℕ, List}
use Rattle.rcv_tree.specs.declared.protocol.Protocol.{Protocol}
use Rattle.rcv_accept.specs.Accepted.{AcceptedView, net_for, roles_of}
use Rattle.rcv_tables.specs.Rows.{TableView, IsTable}
use Rattle.rcv_tables.specs.TableText.{table_text}

abbrev pub accepted_as : Protocol → AcceptedView
accepted_as protocol = record { protocol = protocol }

-- The text of the recovery table of a protocol.
pub record IsTableText (protocol : Protocol) (bytes : List ℕ) : Type 0 where
  pub table : TableView
  pub is_table : IsTable (net_for (accepted_as protocol)) (roles_of (accepted_as protocol)) table
  pub is_text : bytes ≡ table_text (net_for (accepted_as protocol)) protocol.roles table
