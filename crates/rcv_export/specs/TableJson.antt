-- A recovery table as a JSON value: for each role and each of its points, which roles go back if the role fails and that point
-- is the first that it lost, and at which points each of them may restart. Keys are in order.
use Rattle.std.specs.Prelude.{ℕ, if◌then◌else◌, List, [], ◌∷◌, flat_map, length, map, slice_index_or, codes}
use Rattle.std.specs.List.{range_with_len}
use Rattle.serde_json.specs.Data.{Data, member, no_members, object}
use Rattle.rcv_tree.specs.Bits.{has_bit}
use Rattle.rcv_tree.specs.Names.{name_at}
use Rattle.rcv_model.specs.Net.{Net}
use Rattle.rcv_accept.specs.Accepted.{AcceptedView, net_for}
use Rattle.rcv_tables.specs.Rows.{RowView, TableView, row_at}
use Rattle.rcv_tables.specs.TableText.{is_own}
use Rattle.rcv_export.specs.Pieces.{count, line_of, list_of, word_data, words_data}

-- A role that goes back: `{"restarts":[POINT,..],"role":ROLE}`.
abbrev pub restarts_data : List (List ℕ) → RowView → ℕ → Data
restarts_data names row q =
    object (member (codes "restarts") (list_of (map count (slice_index_or row.restarts q [])))
    (member (codes "role") (word_data (name_at names q)) no_members))

-- One if the role is concerned, else none; and those of all roles, in order.
abbrev pub concerned_data : List (List ℕ) → RowView → ℕ → List Data
concerned_data names row q = if has_bit row.concerned q then restarts_data names row q ∷ [] else []

abbrev pub concerned_list : List (List ℕ) → RowView → List Data
concerned_list names row = flat_map (concerned_data names row) (range_with_len 0 (length names))

-- A failure: `{"concerned":[..],"point":POINT,"role":ROLE}`.
abbrev pub failure_data : List (List ℕ) → ℕ → ℕ → RowView → Data
failure_data names p n row =
    object (member (codes "concerned") (list_of (concerned_list names row))
    (member (codes "point") (count n)
    (member (codes "role") (word_data (name_at names p)) no_members)))

-- One if the point is the role's, else none.
abbrev pub start_data : Net → List (List ℕ) → TableView → ℕ → ℕ → List Data
start_data net names table p n = if is_own net p n then failure_data names p n (row_at table p n) ∷ [] else []

-- Those of a role, by its points, and those of all roles.
abbrev pub role_failures : Net → List (List ℕ) → TableView → ℕ → List Data
role_failures net names table p = flat_map (start_data net names table p) (range_with_len 1 net.count)

abbrev pub failures_data : Net → List (List ℕ) → TableView → List Data
failures_data net names table = flat_map (role_failures net names table) (range_with_len 0 (length names))

-- The whole table: `{"failures":[..],"protocol":NAME,"roles":[ROLE,..]}`.
abbrev pub table_data : AcceptedView → TableView → Data
table_data accepted table =
    object (member (codes "failures") (list_of (failures_data (net_for accepted) accepted.protocol.roles table))
    (member (codes "protocol") (word_data accepted.protocol.name)
    (member (codes "roles") (words_data accepted.protocol.roles) no_members)))

-- Its line.
abbrev pub table_json : AcceptedView → TableView → List ℕ
table_json accepted table = line_of (table_data accepted table)
