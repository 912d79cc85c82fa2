-- What is drawn in each group of a picture.
use Rattle.std.specs.Prelude.{◌≡◌, ℕ, Bool, List, ◌++◌, Some, slice_get}
use Rattle.rcv_picture.specs.declared.pixels.Pixels.{Pixels}
use Rattle.std.specs.List.{All}
use Rattle.rcv_tree.specs.declared.event.Event.{Event}
use Rattle.rcv_tree.specs.declared.event.Dir.TheVariants.{Sent, Got}
use Rattle.rcv_tree.specs.declared.entry.Entry as entries
use Rattle.rcv_tree.specs.declared.entry.Entry.TheVariants.{Send, Recv, Crash, Recover}
use Rattle.rcv_picture.specs.declared.group.Group.{Group}
use Rattle.rcv_picture.specs.declared.group.Says.{Says}
use Rattle.rcv_picture.specs.declared.group.Says.TheVariants as says
use Rattle.rcv_scene.specs.Seen.{Seen, seen}
use Rattle.rcv_points.specs.Follow.{net_in}
use Rattle.rcv_session.specs.Session.{roles_of, net_for}
use Rattle.rcv_fates.specs.Record.{RecordView, HasKept}
use Rattle.rcv_story.specs.declared.story.Story.{Story}
use Rattle.rcv_scene.specs.declared.layout.Layout.{Layout}
use Rattle.rcv_scene.specs.Grid.{Scene, scene_of, IsProper}
use Rattle.rcv_scene.specs.Marks.{crash_cross, AddsEvent, IsEventDrawn, IsCrashDrawn}
use Rattle.rcv_scene.specs.Wires.{IsWireDrawn}
use Rattle.rcv_scene.specs.Recoveries.{AddsRecover, IsRecoverDrawn}
use Rattle.rcv_scene.specs.Folds.{IsFoldDrawn}
use Rattle.rcv_scene.specs.declared.ends.RoleEnd.{RoleEnd}
use Rattle.rcv_scene.specs.Feet.{HasFeet}
use Rattle.rcv_scene.specs.Heads.{HasHeads}

-- This entry is drawn so.
abbrev pub IsEntryDrawn : Scene → ℕ → Bool → entries.Entry → List Seen → Type 0
IsEntryDrawn scene place undone (Send event) drawn = IsEventDrawn scene place event Sent undone drawn
IsEntryDrawn scene place undone (Recv event) drawn = IsEventDrawn scene place event Got undone drawn
IsEntryDrawn scene place undone (Crash role) drawn = IsCrashDrawn scene place role drawn
IsEntryDrawn scene place undone (Recover role concerned keeps removed) drawn = IsRecoverDrawn scene place concerned keeps removed drawn

-- Something more was drawn: the mark of this entry, at this height.
abbrev pub AddsEntry : Scene → ℕ → Pixels → entries.Entry → Bool → List Seen → List Seen → Type 0
AddsEntry scene place y (Send event) undone old new = AddsEvent scene place y event Sent undone old new
AddsEntry scene place y (Recv event) undone old new = AddsEvent scene place y event Got undone old new
AddsEntry scene place y (Crash role) undone old new = new ≡ old ++ crash_cross scene.grid y role
AddsEntry scene place y (Recover role concerned keeps removed) undone old new = AddsRecover scene place y concerned keeps removed old new

-- The arrow of a message is drawn so.
abbrev pub IsArrowDrawn : Scene → ℕ → ℕ → Bool → List Seen → Type 0
IsArrowDrawn scene send receive undone drawn =
    (sent got : Event) → slice_get scene.entries send ≡ Some (Send sent) → slice_get scene.entries receive ≡ Some (Recv got)
    → IsWireDrawn scene send receive sent.role got.role undone drawn

-- A group that says this is drawn so.
abbrev pub IsDrawn : Scene → Says → List Seen → Type 0
IsDrawn scene (says.Entry place undone) drawn =
    (e : entries.Entry) → slice_get scene.entries place ≡ Some e → IsEntryDrawn scene place undone e drawn
IsDrawn scene (says.Fold first end counts) drawn = IsFoldDrawn scene first end counts drawn
IsDrawn scene (says.Arrow send receive undone) drawn = IsArrowDrawn scene send receive undone drawn
IsDrawn scene says.Nothing drawn = Unit {0}

-- All groups are drawn so.
abbrev pub AreDrawn : Scene → List Group → Type 0
AreDrawn scene groups = All (λ g. IsDrawn scene g.says (seen g.shapes.items)) groups

-- The marks say for each entry of the record whether its event is undone.
abbrev pub AreMarks : RecordView → List Bool → Type 0
AreMarks r undone = (kept : List Event) → HasKept r kept → HasKept (record r { undone = undone }) kept

-- What is drawn is this: these rows of the record, with this story.
pub record IsSceneOf (r : RecordView) (story : Story) (rows : List Says) (scene : Scene) : Type 0 where
  pub same_setup : scene.setup ≡ r.setup
  pub same_points : net_in scene.points ≡ net_for r.setup
  pub same_says : scene.says ≡ rows
  pub same_entries : scene.entries ≡ r.entries
  pub same_story : scene.story ≡ story
  pub marks : AreMarks r scene.undone
  pub proper : IsProper (roles_of r.setup) rows scene.grid

-- It is laid out so.
abbrev pub IsPlanOf : RecordView → Story → List Says → Layout → Type 0
IsPlanOf r story rows layout = IsSceneOf r story rows (scene_of layout)

-- There is one grid, and each group is drawn on it; one holds the feet of these roles, and one the heads of all.
pub record IsDrawnOnGrid (r : RecordView) (story : Story) (ends : List RoleEnd) (rows : List Says) (groups : List Group) : Type 0 where
  pub scene : Scene
  pub is_scene : IsSceneOf r story rows scene
  pub drawn : AreDrawn scene groups
  pub feet : HasFeet scene.grid ends groups
  pub heads : HasHeads scene.setup scene.grid groups
