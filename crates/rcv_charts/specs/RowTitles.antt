-- What the rows of a table's picture are called: the lines of the table's text, without their line feeds.
use Rattle.std.specs.Prelude.{ℕ, if◌then◌else◌, List, [], ◌∷◌, ◌++◌, flat_map, length, codes, decimal}
use Rattle.std.specs.List.{range_with_len}
use Rattle.rcv_tree.specs.Names.{name_at}
use Rattle.rcv_model.specs.Net.{Net}
use Rattle.rcv_tables.specs.Rows.{RowView, TableView, row_at}
use Rattle.rcv_tables.specs.TableText.{is_own, roles_text}

-- The row of a start, as `fail NAME POINT:` with its concerned roles.
abbrev pub row_title : List (List ℕ) → ℕ → ℕ → RowView → List ℕ
row_title names p n row = codes "fail " ++ name_at names p ++ codes " " ++ decimal n ++ codes ":" ++ roles_text names row

-- One if the point is the role's, else none.
abbrev pub start_titles : Net → List (List ℕ) → TableView → ℕ → ℕ → List (List ℕ)
start_titles net names table p n = if is_own net p n then row_title names p n (row_at table p n) ∷ [] else []

-- Those of a role, by its points, and those of all roles.
abbrev pub role_titles : Net → List (List ℕ) → TableView → ℕ → List (List ℕ)
role_titles net names table p = flat_map (start_titles net names table p) (range_with_len 1 net.count)

abbrev pub table_titles : Net → List (List ℕ) → TableView → List (List ℕ)
table_titles net names table = flat_map (role_titles net names table) (range_with_len 0 (length names))
