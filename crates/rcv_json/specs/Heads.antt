-- How the lists of events at one point begin, and how they end.
use Rattle.std.specs.Prelude.{ℕ, List, ◌++◌, codes, decimal}
use Rattle.std.specs.Fmt.{signed_decimal}
use Rattle.serde_json.specs.Data.{string}
use Rattle.serde_json.specs.Written.{compact_text}
use Rattle.rcv_tree.specs.declared.event.Event.{Event}
use Rattle.rcv_session.specs.Session.{SessionView, net_for}
use Rattle.rcv_journal.specs.Heads.{Begins}
use Rattle.rcv_journal.specs.JournalText.{name_of}

-- A string in quotes.
abbrev pub string_json : List ℕ → List ℕ
string_json s = compact_text (string s)

-- `["KIND","ROLE",POINT,"LABEL",`.
abbrev pub head_json : Begins
head_json setup kind r p =
    codes "[" ++ string_json kind ++ codes "," ++ string_json (name_of setup r) ++ codes "," ++ decimal p
    ++ codes "," ++ string_json ((net_for setup).label p) ++ codes ","

-- What stands after it: `VALUE,STAMP`.
abbrev pub rest_json : Event → List ℕ
rest_json e = signed_decimal e.value ++ codes "," ++ decimal e.stamp

-- Both, for an event of this kind.
abbrev pub event_json : SessionView → List ℕ → Event → List ℕ
event_json setup kind e = head_json setup kind e.role e.point ++ rest_json e
