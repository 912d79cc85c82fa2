-- The rows of recoveries: where each role goes back to, and what is next for it there.
use Rattle.std.specs.Prelude.{◌≡◌, ◌⊎◌, ℕ, ◌+◌, Bool, true, false, Option, Some, None, List, [], ◌∷◌, ◌++◌, length, slice_get, slice_index, slice_index_or, codes, decimal}
use Rattle.rcv_tree.specs.Bits.{has_bit}
use Rattle.rcv_tree.specs.declared.role.RoleSet.{RoleSet}
use Rattle.rcv_tree.specs.declared.entry.Entry.{Entry}
use Rattle.rcv_tree.specs.declared.entry.Entry.TheVariants.{Send, Recv, Crash, Recover}
use Rattle.rcv_model.specs.Next.{AreNext}
use Rattle.rcv_session.specs.Session.{net_for, roles_of}
use Rattle.rcv_picture.specs.declared.pixels.Pixels.{Pixels}
use Rattle.rcv_picture.specs.declared.pixels.At.{At}
use Rattle.rcv_picture.specs.declared.look.Look.{Look}
use Rattle.rcv_picture.specs.declared.look.Look.TheVariants as looks
use Rattle.rcv_picture.specs.declared.shape.Anchor.TheVariants.{Start, Middle}
use Rattle.rcv_story.specs.declared.story.Recovery.{Recovery}
use Rattle.rcv_scene.specs.Seen.{Seen, Frame, Words, at, further, back}
use Rattle.rcv_scene.specs.Wording.{SaysRecovers, undone_words}
use Rattle.rcv_scene.specs.Marks.{number_words}
use Rattle.rcv_scene.specs.Grid.{Grid, Scene, column, IsOwnHeight}

-- Whether a role loses events by a recovery, as the story has it: then it has a first one that it loses.
abbrev pub is_some : Option ℕ → Bool
is_some (Some place) = true
is_some None = false

abbrev pub loses : Recovery → ℕ → Bool
loses recovery role = is_some (slice_index_or recovery.firsts role None)

-- The point of the entry at a place; 0, which is the start, if the entry is no event or there is none.
abbrev pub entry_point : Entry → ℕ
entry_point (Send event) = event.point
entry_point (Recv event) = event.point
entry_point (Crash role) = 0
entry_point (Recover role concerned keeps removed) = 0

abbrev pub entry_point_or_none : Option Entry → ℕ
entry_point_or_none (Some entry) = entry_point entry
entry_point_or_none None = 0

abbrev pub point_at : List Entry → Option ℕ → ℕ
point_at entries (Some place) = entry_point_or_none (slice_get entries place)
point_at entries None = 0

-- The point of the last event that a role keeps.
abbrev pub last_point : Scene → Recovery → ℕ → ℕ
last_point scene recovery role = point_at scene.entries (slice_index_or recovery.lasts role None)

-- `back to` if the role loses events, else `stays at`; and then `start`, or the number of events that it keeps.
abbrev pub verb : Bool → List ℕ
verb true = codes "back to "
verb false = codes "stays at "

pub data IsReturnText (lost : Bool) (kept : ℕ) (text : List ℕ) : Type 0 where
  to_start : kept ≡ 0 → text ≡ verb lost ++ codes "start" → IsReturnText lost kept text
  to_event : text ≡ verb lost ++ codes "event " ++ decimal kept → IsReturnText lost kept text
  to_number : text ≡ verb lost ++ decimal kept → IsReturnText lost kept text

-- The text names all these points, in order, with other words before and after each.
pub data NamesAll : List ℕ → List ℕ → Type 0 where
  Begins : NamesAll [] (codes "next")
  Goes : (points more : List ℕ) (point : ℕ) (text before after longer : List ℕ) → NamesAll points text → more ≡ points ++ point ∷ []
      → longer ≡ text ++ (before ++ decimal point ++ after) → NamesAll more longer

-- `next P or N more`
abbrev pub first_words : ℕ → ℕ → List ℕ
first_words point others = codes "next " ++ decimal point ++ codes " or " ++ decimal others ++ codes " more"

-- What is next: nothing, or all points; or the first, and how many more.
pub data IsNextText (points text : List ℕ) : Type 0 where
  nothing_left : points ≡ [] → text ≡ codes "nothing left" → IsNextText points text
  all_named : NamesAll points text → IsNextText points text
  first_named : (first : ℕ) (others : List ℕ) → points ≡ first ∷ others
      → text ≡ first_words first (length others) → IsNextText points text

-- How a role's pill looks if the role loses events, or loses none, and what stands in the pill.
abbrev pub pill_look : Bool → Look
pill_look true = looks.LostPill
pill_look false = looks.KeptPill

abbrev pub return_look : Bool → Look
return_look true = looks.Lost
return_look false = looks.Bold

-- The pill of a concerned role, in its column at this height.
pub record IsPill (scene : Scene) (recovery : Recovery) (y : Pixels) (role kept : ℕ) (drawn : List Seen) : Type 0 where
  pub corner : At
  pub width : Pixels
  pub height : Pixels
  pub round : Pixels
  pub to : List ℕ
  pub next : List ℕ
  pub points : List ℕ
  pub is : drawn ≡
      Frame corner width height round (pill_look (loses recovery role))
      ∷ Words (at (column scene.grid role) (back y 3)) Middle (return_look (loses recovery role)) to
      ∷ Words (at (column scene.grid role) (further y 10)) Middle looks.Note next ∷ []
  pub returns : IsReturnText (loses recovery role) kept to
  pub nexts : AreNext (net_for scene.setup) role (last_point scene recovery role) points
  pub named : IsNextText points next

-- What is drawn of a role: its pill if it is concerned, else that it goes on.
abbrev pub IsRolePart : Scene → Recovery → Pixels → RoleSet → List ℕ → ℕ → List Seen → Type 0
IsRolePart scene recovery y concerned keeps role drawn =
    ((has_bit concerned.0 role ≡ true) × IsPill scene recovery y role (slice_index keeps role) drawn)
    ⊎ ((has_bit concerned.0 role ≡ false)
    × (drawn ≡ Words (at (further (column scene.grid role) 8) (back y 8)) Start looks.NoteGood (codes "goes on") ∷ []))

-- The first so many roles are drawn so, one after another.
pub data AreRoleParts (scene : Scene) (recovery : Recovery) (y : Pixels) (concerned : RoleSet) (keeps : List ℕ) : ℕ → List Seen → Type 0 where
  NoRole : AreRoleParts scene recovery y concerned keeps 0 []
  NextRole : (role next : ℕ) (before these all : List Seen) → AreRoleParts scene recovery y concerned keeps role before
      → IsRolePart scene recovery y concerned keeps role these → next ≡ role + 1 → all ≡ before ++ these
      → AreRoleParts scene recovery y concerned keeps next all

-- Beside the columns: who recovers, and how many events are undone.
pub record IsWhoPart (scene : Scene) (y : Pixels) (undone : ℕ) (drawn : List Seen) : Type 0 where
  pub who : List ℕ
  pub recovers : SaysRecovers who
  pub is : drawn ≡
      Words (at scene.grid.notes (back y 3)) Start looks.Lost who
      ∷ Words (at scene.grid.notes (further y 11)) Start looks.Note (undone_words undone) ∷ []

-- One of these recoveries is at this place.
pub record IsAtPlace (recoveries : List Recovery) (place : ℕ) (recovery : Recovery) : Type 0 where
  pub number : ℕ
  pub there : slice_get recoveries number ≡ Some recovery
  pub at_place : recovery.place ≡ place

-- The text goes on with a number, and other words before and after it.
pub record AddsNumber (old : List ℕ) (point : ℕ) (new : List ℕ) : Type 0 where
  pub before : List ℕ
  pub after : List ℕ
  pub is : new ≡ old ++ (before ++ decimal point ++ after)

-- Something more was drawn: a pill with these texts; the pill of a role; what is drawn of a role, and of the first so many roles;
-- and what stands beside the columns.
pub record AddsPillTexts (grid : Grid) (y : Pixels) (role : ℕ) (lost : Bool) (to next : List ℕ) (old new : List Seen) : Type 0 where
  pub corner : At
  pub width : Pixels
  pub height : Pixels
  pub round : Pixels
  pub is : new ≡ old ++
      Frame corner width height round (pill_look lost)
      ∷ Words (at (column grid role) (back y 3)) Middle (return_look lost) to
      ∷ Words (at (column grid role) (further y 10)) Middle looks.Note next ∷ []

pub record AddsPill (scene : Scene) (recovery : Recovery) (y : Pixels) (role kept : ℕ) (old new : List Seen) : Type 0 where
  pub pill : List Seen
  pub is : new ≡ old ++ pill
  pub right : IsPill scene recovery y role kept pill

pub record AddsRole (scene : Scene) (recovery : Recovery) (y : Pixels) (role : ℕ) (concerned : RoleSet) (keeps : List ℕ) (old new : List Seen) : Type 0 where
  pub part : List Seen
  pub is : new ≡ old ++ part
  pub right : IsRolePart scene recovery y concerned keeps role part

pub record AddsRoles (scene : Scene) (recovery : Recovery) (y : Pixels) (count : ℕ) (concerned : RoleSet) (keeps : List ℕ) (old new : List Seen) : Type 0 where
  pub parts : List Seen
  pub is : new ≡ old ++ parts
  pub right : AreRoleParts scene recovery y concerned keeps count parts

pub record AddsWho (scene : Scene) (y : Pixels) (undone : ℕ) (old new : List Seen) : Type 0 where
  pub part : List Seen
  pub is : new ≡ old ++ part
  pub right : IsWhoPart scene y undone part

-- Something more was drawn: the row of a Recover at a place. The Recover concerns these roles, and leaves so many events to each.
pub record AddsRecover (scene : Scene) (place : ℕ) (y : Pixels) (concerned : RoleSet) (keeps : List ℕ) (undone : ℕ) (old new : List Seen) : Type 0 where
  pub recovery : Recovery
  pub told : IsAtPlace scene.story.recoveries.items place recovery
  pub roles : List Seen
  pub who : List Seen
  pub each : AreRoleParts scene recovery y concerned keeps (roles_of scene.setup) roles
  pub beside : IsWhoPart scene y undone who
  pub is : new ≡ old ++ (roles ++ who)

-- The group of a Recover: the entry's number, and its row.
pub record IsRecoverDrawn (scene : Scene) (place : ℕ) (concerned : RoleSet) (keeps : List ℕ) (undone : ℕ) (drawn : List Seen) : Type 0 where
  pub y : Pixels
  pub height : IsOwnHeight scene place y
  pub adds : AddsRecover scene place y concerned keeps undone (number_words scene.grid place y ∷ []) drawn
