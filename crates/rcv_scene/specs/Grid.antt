-- The grid of a picture: where the columns of the roles and the rows of the entries stand.
use Rattle.std.specs.Prelude.{◌≡◌, ℕ, ◌+◌, ◌<◌, ◌≤◌, Bool, Option, Some, None, List, [], ◌∷◌, length, slice_get}
use Rattle.rcv_tree.specs.declared.entry.Entry.{Entry}
use Rattle.rcv_picture.specs.declared.pixels.Pixels.{Pixels}
use Rattle.rcv_picture.specs.declared.pixels.At.{At}
use Rattle.rcv_picture.specs.declared.group.Counts.{Counts}
use Rattle.rcv_picture.specs.declared.group.Says.{Says}
use Rattle.rcv_picture.specs.declared.group.Says.TheVariants as says
use Rattle.rcv_points.specs.Follow.{PointsView}
use Rattle.rcv_session.specs.Session.{SessionView}
use Rattle.rcv_story.specs.declared.story.Story.{Story}
use Rattle.rcv_scene.specs.declared.layout.Row.{Row}
use Rattle.rcv_scene.specs.declared.layout.Stand.{Stand}
use Rattle.rcv_scene.specs.declared.layout.Stand.TheVariants.{Own, Folded}
use Rattle.rcv_scene.specs.declared.layout.Layout.{Layout}
use Rattle.rcv_scene.specs.Seen.{pixels}

-- The middle of each role's column, the edges and the middle of each row, where the numbers of the rows end, and where
-- the notes beside the columns begin.
pub record Grid : Type 0 where
  pub columns : List Pixels
  pub rows : List Row
  pub numbers : Pixels
  pub notes : Pixels

-- What is drawn on it: the session, the points of its text, what the rows say of the entries, for each entry whether its event is
-- undone, and the story of the entries.
pub record Scene : Type 0 where
  pub setup : SessionView
  pub points : PointsView
  pub grid : Grid
  pub says : List Says
  pub entries : List Entry
  pub undone : List Bool
  pub story : Story

abbrev pub grid_of : Layout → Grid
grid_of l = record { columns = l.columns.items; rows = l.rows.items; numbers = l.numbers; notes = l.notes }

abbrev pub scene_of : Layout → Scene
scene_of l =
    record {
      setup = l.setup.now;
      points = l.cast.points.now;
      grid = grid_of l;
      says = l.says.now;
      entries = l.entries.now;
      undone = l.undone.items;
      story = l.story.now;
    }

-- The middle of a role's column.
abbrev pub or_left : Option Pixels → Pixels
or_left (Some x) = x
or_left None = pixels 0

abbrev pub column : Grid → ℕ → Pixels
column grid role = or_left (slice_get grid.columns role)

-- The layout is one of these rows and entries.
pub record IsLayoutOf (setup : SessionView) (points : PointsView) (rows : List Says) (entries : List Entry) (undone : List Bool) (story : Story) (l : Layout) : Type 0 where
  pub same_setup : l.setup.now ≡ setup
  pub same_points : l.cast.points.now ≡ points
  pub same_says : l.says.now ≡ rows
  pub same_entries : l.entries.now ≡ entries
  pub same_undone : l.undone.items ≡ undone
  pub same_story : l.story.now ≡ story

-- The entry at this place has a row of its own, whose middle has this height.
pub record IsOwnHeight (scene : Scene) (place : ℕ) (y : Pixels) : Type 0 where
  pub number : ℕ
  pub undone : Bool
  pub row : Row
  pub said : slice_get scene.says number ≡ Some (says.Entry place undone)
  pub there : slice_get scene.grid.rows number ≡ Some row
  pub height : row.middle ≡ y

-- It stands in a fold, which has this row.
pub record IsFoldRow (scene : Scene) (place : ℕ) (row : Row) : Type 0 where
  pub number : ℕ
  pub first : ℕ
  pub end : ℕ
  pub counts : Counts
  pub said : slice_get scene.says number ≡ Some (says.Fold first end counts)
  pub there : slice_get scene.grid.rows number ≡ Some row
  pub from : first ≤ place
  pub to : place < end

-- It stands there.
abbrev pub StandsAt : Scene → ℕ → Stand → Type 0
StandsAt scene place (Own y) = IsOwnHeight scene place y
StandsAt scene place (Folded row) = IsFoldRow scene place row

-- The fold of these entries has this row.
pub record IsRowOfFold (scene : Scene) (first end : ℕ) (row : Row) : Type 0 where
  pub number : ℕ
  pub counts : Counts
  pub said : slice_get scene.says number ≡ Some (says.Fold first end counts)
  pub there : slice_get scene.grid.rows number ≡ Some row

-- What a row says puts the entry at this place there.
abbrev pub PutsAt : Says → Row → ℕ → Stand → Type 0
PutsAt said row place (Own y) = (undone : Bool) × (said ≡ says.Entry place undone) × (row.middle ≡ y)
PutsAt said row place (Folded at) =
    (first : ℕ) × (end : ℕ) × (counts : Counts) × (said ≡ says.Fold first end counts) × (first ≤ place) × (place < end) × (row ≡ at)

-- How wide a mark is at least, and how high a row is at least on each side of its middle.
abbrev pub mark_width : ℕ
mark_width = 40

abbrev pub half_row : ℕ
half_row = 10

-- Each column stands at least the width of a mark to the right of the one before it; the first stands at least so far.
abbrev pub AreBeside : ℕ → List Pixels → Type 0
AreBeside least [] = Unit {0}
AreBeside least (x ∷ columns) = (least ≤ x.0) × AreBeside (x.0 + mark_width) columns

-- A row begins at least so low, and its middle is between its edges; each row stands under the one before it.
pub record IsBelow (least : ℕ) (row : Row) : Type 0 where
  pub begins : least ≤ row.top.0
  pub above : row.top.0 + half_row ≤ row.middle.0
  pub under : row.middle.0 + half_row ≤ row.bottom.0

abbrev pub AreBelow : ℕ → List Row → Type 0
AreBelow least [] = Unit {0}
AreBelow least (row ∷ rows) = IsBelow least row × AreBelow row.bottom.0 rows

-- Each role has a column, and all that is said has a row; no two meet.
pub record IsProper (roles : ℕ) (says : List Says) (grid : Grid) : Type 0 where
  pub each_role : length grid.columns ≡ roles
  pub each_row : length grid.rows ≡ length says
  pub beside : AreBeside 0 grid.columns
  pub below : AreBelow 0 grid.rows
