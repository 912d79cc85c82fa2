-- Laws: on a proper grid no two columns and no two rows meet; and no label looks like a mark.
use Rattle.std.specs.Prelude.{◌≡◌, ℕ, ◌+◌, ◌<◌, ◌≤◌, Bool, List, [], Some, slice_get}
use Rattle.rcv_tree.specs.declared.event.Event.{Event}
use Rattle.rcv_tree.specs.declared.event.Dir.{Dir}
use Rattle.rcv_picture.specs.declared.pixels.Pixels.{Pixels}
use Rattle.rcv_scene.specs.declared.layout.Row.{Row}
use Rattle.rcv_scene.specs.Seen.{Seen, marks}
use Rattle.rcv_scene.specs.Grid.{Scene, AreBeside, AreBelow, mark_width, half_row}
use Rattle.rcv_scene.specs.Marks.{IsLabel}

-- The columns of two roles are at least the width of a mark apart.
abbrev pub ColumnsStandApart : Type 0
ColumnsStandApart =
    (columns : List Pixels) (i j : ℕ) (x y : Pixels) → AreBeside 0 columns → i < j
    → slice_get columns i ≡ Some x → slice_get columns j ≡ Some y → x.0 + mark_width ≤ y.0

-- The middles of two rows are at least a row's least height apart.
abbrev pub RowsStandApart : Type 0
RowsStandApart =
    (rows : List Row) (i j : ℕ) (a b : Row) → AreBelow 0 rows → i < j
    → slice_get rows i ≡ Some a → slice_get rows j ≡ Some b → a.middle.0 + half_row + half_row ≤ b.middle.0

-- No part of a label is a disc, or a stroke of a cross.
abbrev pub LabelsAreNoMarks : Type 0
LabelsAreNoMarks =
    (scene : Scene) (place : ℕ) (y : Pixels) (event : Event) (dir : Dir) (undone : Bool) (drawn : List Seen)
    → IsLabel scene place y event dir undone drawn → marks drawn ≡ []
