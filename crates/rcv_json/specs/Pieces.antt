-- The pieces that a journal's JSON is written in.
use Rattle.std.specs.Prelude.{ℕ, List, [], ◌∷◌, ◌++◌, flat_map, map, codes}
use Rattle.serde_json.specs.Written.{compact_text}
use Rattle.rcv_tree.specs.declared.entry.Entry.{Entry}
use Rattle.rcv_session.specs.Session.{SessionView}
use Rattle.rcv_journal.specs.declared.line.RoleLine.{RoleLine}
use Rattle.rcv_journal.specs.Json.{entry_data, limited_data, line_data, list_of}

-- An entry, and an entry after another one.
abbrev pub entry_json : SessionView → Entry → List ℕ
entry_json setup e = compact_text (entry_data setup e)

abbrev pub next_json : SessionView → Entry → List ℕ
next_json setup e = codes "," ++ entry_json setup e

-- Entries with commas between them.
abbrev pub entries_json : SessionView → List Entry → List ℕ
entries_json setup [] = []
entries_json setup (e ∷ more) = entry_json setup e ++ flat_map (next_json setup) more

-- What stands before the entries, after them, between the lists of roles, and at the end.
unfoldable pub opening : List ℕ
opening = codes "{\"entries\":["

unfoldable pub limited_key : List ℕ
limited_key = codes "],\"limited\":"

unfoldable pub roles_key : List ℕ
roles_key = codes ",\"roles\":"

unfoldable pub closing : List ℕ
closing = codes "}\n"

-- All pieces.
abbrev pub pieces : SessionView → List Entry → List RoleLine → List ℕ
pieces setup entries lines =
    opening ++ entries_json setup entries ++ limited_key ++ compact_text (list_of (limited_data setup lines))
    ++ roles_key ++ compact_text (list_of (map (line_data setup) lines)) ++ closing
