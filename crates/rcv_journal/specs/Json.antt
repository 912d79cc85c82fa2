-- A journal as a JSON value, and the line that says it.
use Rattle.std.specs.Prelude.{◌≡◌, ℕ, if◌then◌else◌, List, [], ◌∷◌, ◌++◌, map, flat_map, codes, slice_index}
use Rattle.std.specs.List.{range_with_len}
use Rattle.serde_json.specs.Data.{Data, array, member, no_members, number, object, string, unsigned}
use Rattle.serde_json.specs.Find.{of_integer}
use Rattle.serde_json.specs.View.{items_of}
use Rattle.serde_json.specs.Written.{compact_text}
use Rattle.rcv_tree.specs.Bits.{has_bit}
use Rattle.rcv_tree.specs.declared.event.Event.{Event}
use Rattle.rcv_tree.specs.declared.entry.Entry.{Entry}
use Rattle.rcv_tree.specs.declared.entry.Entry.TheVariants.{Send, Recv, Crash, Recover}
use Rattle.rcv_model.specs.Journal.{reading}
use Rattle.rcv_session.specs.Session.{SessionView, roles_of, net_for, rules_of}
use Rattle.rcv_journal.specs.declared.line.RoleLine.{RoleLine}
use Rattle.rcv_journal.specs.JournalText.{is_limit, name_of, word_text}
use Rattle.rcv_journal.specs.Lines.{AreLinesOf}
use Rattle.rcv_journal.specs.Recorded.{JournalView}

abbrev pub list_of : List Data → Data
list_of items = array (items_of items)

abbrev pub count : ℕ → Data
count n = number (unsigned n)

abbrev pub role_data : SessionView → ℕ → Data
role_data setup r = string (name_of setup r)

-- What a Send and a Recv have in common: `WORD,ROLE,POINT,LABEL,VALUE,STAMP`, and the rest.
abbrev pub event_items : SessionView → List ℕ → Event → List Data → List Data
event_items setup word e rest =
    string word ∷ role_data setup e.role ∷ count e.point ∷ string ((net_for setup).label e.point)
    ∷ number (of_integer e.value) ∷ count e.stamp ∷ rest

abbrev pub event_data : SessionView → List ℕ → Event → List Data → Data
event_data setup word e rest = list_of (event_items setup word e rest)

-- What a recovery says of a role: `[ROLE,KEPT]` if it is concerned, else nothing; and of the first so many roles.
abbrev pub cut_data : SessionView → ℕ → List ℕ → ℕ → List Data
cut_data setup concerned kept q =
    if has_bit concerned q then list_of (role_data setup q ∷ count (slice_index kept q) ∷ []) ∷ [] else []

abbrev pub cuts_data : SessionView → ℕ → List ℕ → ℕ → List Data
cuts_data setup concerned kept roles = flat_map (cut_data setup concerned kept) (range_with_len 0 roles)

-- An entry.
abbrev pub entry_data : SessionView → Entry → Data
entry_data setup (Send e) = event_data setup (codes "send") e []
entry_data setup (Recv e) = event_data setup (codes "recv") e (count e.sent ∷ [])
entry_data setup (Crash p) = list_of (string (codes "crash") ∷ role_data setup p ∷ [])
entry_data setup (Recover p concerned kept undone) =
    list_of (string (codes "recover") ∷ role_data setup p ∷ count undone
    ∷ list_of (cuts_data setup concerned.0 kept (roles_of setup)) ∷ [])

-- The line of a role: `[ROLE,KEPT,RAW,WORD]`.
abbrev pub line_data : SessionView → RoleLine → Data
line_data setup line = list_of (role_data setup line.role ∷ count line.kept ∷ count line.raw ∷ string (word_text line.word) ∷ [])

-- The name of a line's role if that is at the limit; and those of all such roles.
abbrev pub limit_data : SessionView → RoleLine → List Data
limit_data setup line = if is_limit line.word then role_data setup line.role ∷ [] else []

abbrev pub limited_data : SessionView → List RoleLine → List Data
limited_data setup lines = flat_map (limit_data setup) lines

-- Three members, in order of their keys.
abbrev pub members_data : List Data → List Data → List Data → Data
members_data entries limited roles =
    object (member (codes "entries") (list_of entries)
    (member (codes "limited") (list_of limited)
    (member (codes "roles") (list_of roles) no_members)))

-- The whole journal: its entries, the roles at the limit, and a line for each role.
abbrev pub journal_data : SessionView → List Entry → List RoleLine → Data
journal_data setup entries lines =
    members_data (map (entry_data setup) entries) (limited_data setup lines) (map (line_data setup) lines)

-- Its line.
abbrev pub json_text : SessionView → List Entry → List RoleLine → List ℕ
json_text setup entries lines = compact_text (journal_data setup entries lines) ++ codes "\n"

-- The bytes are the JSON of this journal.
pub record IsJsonOf (setup : SessionView) (entries : List Entry) (bytes : List ℕ) : Type 0 where
  pub lines : List RoleLine
  pub are_lines : AreLinesOf (rules_of setup) (reading (rules_of setup) entries) lines
  pub is_json : bytes ≡ json_text setup entries lines

-- A journal that was read back: the roles of the last line are told apart from the lines of the roles.
abbrev pub formed_data : SessionView → JournalView → Data
formed_data setup j =
    members_data (map (entry_data setup) j.entries) (map (role_data setup) j.limited) (map (line_data setup) j.roles)
