-- What holds of the definitions.
use Rattle.std.specs.Prelude.{◌≡◌, ℕ, List, ◌++◌, flat_map, codes}
use Rattle.rcv_model.specs.Net.{Net}
use Rattle.rcv_tables.specs.Rows.{TableView}
use Rattle.rcv_tables.specs.TableText.{table_text}
use Rattle.rcv_charts.specs.RowTitles.{table_titles}

-- A title with a line feed after it.
abbrev pub as_line : List ℕ → List ℕ
as_line title = title ++ codes "\n"

-- The titles of a table's rows are the lines of its text.
abbrev pub RowsAreLines : Type 0
RowsAreLines =
    (net : Net) (names : List (List ℕ)) (table : TableView) → flat_map as_line (table_titles net names table) ≡ table_text net names table
