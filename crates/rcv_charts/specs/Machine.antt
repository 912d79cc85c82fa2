-- The picture of a role's machine: its wires and its boxes.
use Rattle.std.specs.Prelude.{◌≡◌, ◌<◌, ℕ, List, ◌++◌, length, slice_index_or, codes, decimal}
use Rattle.rcv_picture.specs.declared.group.Group.{Group}
use Rattle.rcv_picture.specs.declared.picture.Picture.{Picture}
use Rattle.rcv_model.specs.Net.{Net}
use Rattle.rcv_charts.specs.declared.wires.Wire.{Wire}
use Rattle.rcv_charts.specs.Titles.{titled_of}
use Rattle.rcv_charts.specs.States.{StateView, AreStatesOf}
use Rattle.rcv_charts.specs.StateTitles.{places_title, IsBox}
use Rattle.rcv_charts.specs.Wires.{AreWires, state_at, wire_at}
use Rattle.rcv_charts.specs.Drawn.{DrawingView}

-- A wire, by the state that it comes from and its point: `from places 0, 5 by point 3`
abbrev pub wire_title : List StateView → Wire → List ℕ
wire_title states wire =
    codes "from " ++ places_title (state_at states wire.from).places ++ codes " by point " ++ decimal wire.point

-- The group is the wire.
abbrev pub IsWire : List StateView → Wire → Group → Type 0
IsWire states wire group = group.title.items ≡ wire_title states wire

-- There are n groups, each of which shows the thing of its number.
pub record AreShown (n : ℕ) (Shows : ℕ → Group → Type 0) (groups : List Group) : Type 0 where
  pub all : length groups ≡ n
  pub each : (i : ℕ) (d : Group) → i < n → Shows i (slice_index_or groups i d)

-- A drawing has such groups more. How far down it goes is free.
pub record Adds (n : ℕ) (Shows : ℕ → Group → Type 0) (before after : DrawingView) : Type 0 where
  pub added : List Group
  pub shown : AreShown n Shows added
  pub grown : after.groups ≡ before.groups ++ added

abbrev pub ShowsWire : List StateView → List Wire → ℕ → Group → Type 0
ShowsWire states wires i group = IsWire states (wire_at wires i) group

abbrev pub ShowsBox : List (List ℕ) → Net → List StateView → ℕ → Group → Type 0
ShowsBox names net states i group = IsBox names net (state_at states i) group

-- The groups with a title are the wires and then the boxes of these states.
pub record ShowsStates (names : List (List ℕ)) (net : Net) (states : List StateView) (groups : List Group) : Type 0 where
  pub wires : List Wire
  pub are_wires : AreWires states wires
  pub wire_groups : List Group
  pub wires_shown : AreShown (length wires) (ShowsWire states wires) wire_groups
  pub boxes : List Group
  pub boxes_shown : AreShown (length states) (ShowsBox names net states) boxes
  pub together : groups ≡ wire_groups ++ boxes

-- The picture is one of the machine of role r, if these are the names of the roles.
pub record IsMachine (names : List (List ℕ)) (net : Net) (r : ℕ) (picture : Picture) : Type 0 where
  pub states : List StateView
  pub are_states : AreStatesOf net r states
  pub shown : ShowsStates names net states (titled_of picture)
