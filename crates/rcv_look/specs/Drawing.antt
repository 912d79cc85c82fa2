-- What the pictures and texts of a session are.
use Rattle.std.specs.Prelude.{◌≡◌, ◌≤◌, ◌+◌, ◌*◌, ℕ, Bool, ◌⊎◌, List, map, ◌++◌, length, nat_lt, if◌then◌else◌, codes, decimal, Some, None}
use Rattle.rcv_tree.specs.declared.entry.Entry.{Entry}
use Rattle.rcv_tree.specs.declared.event.Event.{Event}
use Rattle.rcv_tree.specs.declared.protocol.Protocol.{Protocol}
use Rattle.rcv_tree.specs.Names.{place_of}
use Rattle.rcv_model.specs.Text.{body_of}
use Rattle.rcv_model.specs.Journal.{reading}
use Rattle.rcv_accept.specs.Accepted.{AcceptedView, net_for, roles_of}
use Rattle.rcv_session.specs.Session.{SessionView, rules_of}
use Rattle.rcv_tables.specs.Rows.{TableView, IsTable}
use Rattle.rcv_input.specs.declared.refused.Refused.TheVariants.{NoRole}
use Rattle.rcv_input.specs.Line.{refusal_line}
use Rattle.rcv_explain.specs.declared.explanation.Explanation.{Explanation}
use Rattle.rcv_explain.specs.Explained.{HasRule, IsNamed, spelled}
use Rattle.rcv_listing.specs.declared.listing.Listing.{Listing}
use Rattle.rcv_listing.specs.declared.listing.Listing.TheVariants.{Accepted, RuledOut, HalfRead, Unread}
use Rattle.rcv_listing.specs.Listing.{IsListing}
use Rattle.rcv_heat.specs.Shown.{IsFailuresPicture}
use Rattle.rcv_points_json.specs.PointsJson.{IsJson}
use Rattle.rcv_project.specs.Local.{LocalView, IsLocalOf}
use Rattle.rcv_export.specs.TableJson.{table_json}
use Rattle.rcv_export.specs.RoleJson.{role_json}
use Rattle.rcv_picture.specs.declared.group.Says.{Says}
use Rattle.rcv_picture.specs.declared.picture.Picture.{Picture}
use Rattle.rcv_picture.specs.Drawn.{tree_of}
use Rattle.rcv_picture.specs.Tree as trees
use Rattle.rcv_rows.specs.Told.{Tells, ShowMarked}
use Rattle.rcv_fates.specs.Record.{RecordView, HasKept, journal_of}
use Rattle.rcv_journal.specs.declared.line.RoleLine.{RoleLine}
use Rattle.rcv_story.specs.declared.story.Story.{Story}
use Rattle.rcv_story.specs.Story.{IsStory}
use Rattle.rcv_story.specs.Shown.{AreShown}
use Rattle.rcv_scene.specs.declared.ends.End.{End}
use Rattle.rcv_scene.specs.declared.ends.End.TheVariants as ends
use Rattle.rcv_scene.specs.declared.ends.RoleEnd.{RoleEnd}
use Rattle.rcv_scene.specs.Ends.{ends_in}
use Rattle.rcv_scene.specs.Told.{told, AreTitled}
use Rattle.rcv_scene.specs.Drawn.{IsDrawnOnGrid}
use Rattle.rcv_dialogue.specs.declared.answer.RoleState.{RoleState}
use Rattle.rcv_dialogue.specs.declared.answer.State.{State}
use Rattle.rcv_dialogue.specs.declared.answer.State.TheVariants as states
use Rattle.rcv_told.specs.Told as guided
use Rattle.rcv_retold.specs.Retold.{terms_for}
use Rattle.rcv_retold.specs.Closing.{AreStates}
use Rattle.rcv_charts.specs.Titles.{titles_of}
use Rattle.rcv_charts.specs.RowTitles.{table_titles}
use Rattle.rcv_charts.specs.Machine.{IsMachine}
use Rattle.rcv_charts.specs.Chart.{IsChart}
use Rattle.rcv_charts.specs.Statements.{statement_titles}
use Rattle.rcv_look.specs.declared.status.Status.{Status}
use Rattle.rcv_look.specs.declared.status.Status.TheVariants.{Drawn, Refused}

-- An accepted protocol.
abbrev pub accepted_as : Protocol → AcceptedView
accepted_as protocol = record { protocol = protocol }

-- The bytes are the text of this picture.
abbrev pub IsTextOf : Picture → List ℕ → Type 0
IsTextOf picture bytes = bytes ≡ trees.spelled (tree_of picture)

-- How many bytes a picture of so many entries may have: so many for each of the first 450 entries, and some for the rest.
abbrev pub most_drawn : ℕ → ℕ
most_drawn entries = 131072 + 4096 * (if nat_lt entries 450 then entries else 450)

-- The bytes are a picture of a session's entries: these events are kept at their end, and the roles ended so.
--   Its groups tell of the entries: each has one group or stands in one fold, says undone exactly if it isn't kept, and each
-- arrow is a message. It shows those that the story shows. An entry's title is its line.
--   What is drawn in a group stands on one grid, by the entries' story: an event's mark in its role's column and its own row,
-- an arrow from mark to mark, a fold's counts, and for a recovery each role that goes back, stays or goes on. The feet say how
-- the roles ended.
--   The bytes are as few as a picture of so many entries may have.
pub record IsDrawing (session : SessionView) (entries : List Entry) (kept : List Event) (ends : List RoleEnd) (bytes : List ℕ) : Type 0 where
  pub journal : RecordView
  pub same_setup : journal.setup ≡ session
  pub same_entries : journal.entries ≡ entries
  pub keeps : HasKept journal kept
  pub story : Story
  pub is_story : IsStory journal story
  pub picture : Picture
  pub rows : List Says
  pub arrows : List Says
  pub shown : List Bool
  pub are_shown : AreShown (length journal.entries) story.recoveries.items shown
  pub marked : ShowMarked shown rows
  pub tells : Tells (net_for (accepted_as session.protocol)) kept journal.entries rows arrows
  pub told_so : told picture.groups.items ≡ arrows ++ rows
  pub titled : AreTitled (journal_of journal) picture.groups.items
  pub on_grid : IsDrawnOnGrid journal story ends rows picture.groups.items
  pub is_text : IsTextOf picture bytes
  pub short : length bytes ≤ most_drawn (length entries)

-- The bytes are a picture of a session's journal, whose roles ended as these lines say: the kept events are those that the journal
-- leaves.
abbrev pub IsJournalDrawing : SessionView → List Entry → List RoleLine → List ℕ → Type 0
IsJournalDrawing session entries lines bytes =
    IsDrawing session entries (reading (rules_of session) entries).kept (ends_in lines) bytes

-- A count, or the greatest that a picture says, if it is greater.
abbrev pub short_count : ℕ → ℕ
short_count n = if nat_lt n 4294967296 then n else 4294967295

-- How a role stands, as a picture says it.
abbrev pub end_as : State → End
end_as states.Down = ends.Down
end_as states.Done = ends.Done
end_as states.Waits = ends.Waits

abbrev pub told_end : RoleState → RoleEnd
told_end own = record { role = own.role; kept = short_count own.kept; raw = short_count own.raw; end = end_as own.state }

-- The bytes are a picture of what a guide was told: the kept events are those that it holds at the end, and the roles stand as
-- it has them.
pub record IsToldDrawing (session : SessionView) (entries : List Entry) (bytes : List ℕ) : Type 0 where
  pub states : List RoleState
  pub are_states : AreStates (net_for (accepted_as session.protocol)) (roles_of (accepted_as session.protocol))
      (guided.told (terms_for session) entries) states
  pub drawing : IsDrawing session entries (guided.told (terms_for session) entries).held (map told_end states) bytes

-- The bytes are a picture of the recovery table of a protocol: its rows have the lines of the table as their titles.
pub record IsTableDrawing (protocol : Protocol) (bytes : List ℕ) : Type 0 where
  pub picture : Picture
  pub table : TableView
  pub is_table : IsTable (net_for (accepted_as protocol)) (roles_of (accepted_as protocol)) table
  pub titled : titles_of picture ≡ table_titles (net_for (accepted_as protocol)) protocol.roles table
  pub is_text : IsTextOf picture bytes

-- The bytes are a picture of the machine of a role: places are one state exactly if the role does the same at them, each state
-- has a box with its steps, and each step a wire to the state that it leads to.
pub record IsRoleDrawing (protocol : Protocol) (role : ℕ) (bytes : List ℕ) : Type 0 where
  pub picture : Picture
  pub machine : IsMachine protocol.roles (net_for (accepted_as protocol)) role picture
  pub is_text : IsTextOf picture bytes

-- The bytes are a picture of a protocol: each statement is drawn once, in text order, further down than the one before it and
-- between the edges of its frames; and its title says it.
pub record IsProtocolDrawing (protocol : Protocol) (bytes : List ℕ) : Type 0 where
  pub picture : Picture
  pub chart : IsChart protocol.roles (body_of protocol.body) picture
  pub titled : titles_of picture ≡ statement_titles protocol.roles (body_of protocol.body)
  pub is_text : IsTextOf picture bytes

-- The bytes are a picture of what a session's crashes would cost.
pub record IsFailuresDrawing (session : SessionView) (bytes : List ℕ) : Type 0 where
  pub picture : Picture
  pub is_picture : IsFailuresPicture session picture
  pub is_text : IsTextOf picture bytes

-- The role with this name is shown so, or the protocol declares none, and that is written.
abbrev pub IsRoleAnswer : (ℕ → List ℕ → Type 0) → Protocol → List ℕ → Status → List ℕ → Type 0
IsRoleAnswer IsShown protocol name status bytes =
    ((role : ℕ) × (place_of protocol.roles name ≡ Some role) × (status ≡ Drawn) × IsShown role bytes)
    ⊎ ((place_of protocol.roles name ≡ None) × (status ≡ Refused) × (bytes ≡ refusal_line NoRole))

-- The bytes are the recovery table of a protocol as JSON.
pub record IsTableJson (protocol : Protocol) (bytes : List ℕ) : Type 0 where
  pub table : TableView
  pub is_table : IsTable (net_for (accepted_as protocol)) (roles_of (accepted_as protocol)) table
  pub is : bytes ≡ table_json (accepted_as protocol) table

-- They are the machine of a role as JSON.
pub record IsRoleJson (protocol : Protocol) (role : ℕ) (bytes : List ℕ) : Type 0 where
  pub local : LocalView
  pub is_local : IsLocalOf (net_for (accepted_as protocol)) role local
  pub is : bytes ≡ role_json (accepted_as protocol) local

-- A listing is written: as what was asked for, or, if the input is refused, as a refusal.
abbrev pub ListsAs : Listing → Status → List ℕ → Type 0
ListsAs (Accepted text) status bytes = (status ≡ Drawn) × (bytes ≡ text.items)
ListsAs (RuledOut text) status bytes = (status ≡ Refused) × (bytes ≡ text.items)
ListsAs (HalfRead text) status bytes = (status ≡ Refused) × (bytes ≡ text.items)
ListsAs (Unread text) status bytes = (status ≡ Refused) × (bytes ≡ text.items)

-- The answer to `points`: the listing of the input, with what its first refusal says.
pub record ArePoints (input : List ℕ) (status : Status) (bytes : List ℕ) : Type 0 where
  pub listing : Listing
  pub is_listing : IsListing input listing
  pub lists : ListsAs listing status bytes

-- The answer to `points --json`: the same as JSON.
pub record ArePointsAsJson (input : List ℕ) (status : Status) (bytes : List ℕ) : Type 0 where
  pub listing : Listing
  pub is_json : IsJson input listing
  pub lists : ListsAs listing status bytes

-- `no rule N`
abbrev pub no_rule_line : ℕ → List ℕ
no_rule_line code = codes "no rule " ++ decimal code ++ codes "\n"

-- The answer to `explain`: the explanation of the rule with this code, or that there is none.
pub data IsExplanation (code : ℕ) : Status → List ℕ → Type 0 where
  explained : (e : Explanation) → IsNamed code e.name.now → IsExplanation code Drawn (spelled code e)
  unknown : (HasRule code → ⊥) → IsExplanation code Refused (no_rule_line code)
