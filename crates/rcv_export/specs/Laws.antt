-- What holds of the definitions.
use Rattle.std.specs.Prelude.{◌≡◌, ℕ, List}
use Rattle.rcv_tree.specs.Words.{IsWord}
use Rattle.rcv_accept.specs.Accepted.{AcceptedView, IsAcceptedProtocol, roles_of, net_for}
use Rattle.rcv_project.specs.Local.{LocalView, IsLocalOf}
use Rattle.rcv_tables.specs.Rows.{TableView, IsTable}
use Rattle.rcv_export.specs.Pieces.{ascii_of}
use Rattle.rcv_export.specs.ReadBack.{IsReadAs}
use Rattle.rcv_export.specs.RoleJson.{role_data, role_json}
use Rattle.rcv_export.specs.TableJson.{table_data, table_json}

-- A word is written whole.
abbrev pub WordsStayWhole : Type 0
WordsStayWhole = (name : List ℕ) → IsWord name → ascii_of name ≡ name

-- The line of a protocol's table is read as the table's value.
abbrev pub TablesAreReadBack : Type 0
TablesAreReadBack =
    (accepted : AcceptedView) (table : TableView) → IsAcceptedProtocol accepted.protocol
    → IsTable (net_for accepted) (roles_of accepted) table → IsReadAs (table_json accepted table) (table_data accepted table)

-- The line of a role's machine is read as the machine's value.
abbrev pub MachinesAreReadBack : Type 0
MachinesAreReadBack =
    (accepted : AcceptedView) (local : LocalView) → IsAcceptedProtocol accepted.protocol
    → IsLocalOf (net_for accepted) local.role local → IsReadAs (role_json accepted local) (role_data accepted local)
