-- Laws: what is told is determined by what is shown, and adds up.
use Rattle.std.specs.Prelude.{◌≡◌, ◌↔◌, ℕ, ◌+◌, ◌-◌, Bool, Option, Some, None, List, length, slice_get}
use Rattle.std.specs.List.{count_by, sum_by}
use Rattle.rcv_tree.specs.declared.event.Event.{Event}
use Rattle.rcv_tree.specs.declared.entry.Entry.{Entry}
use Rattle.rcv_tree.specs.declared.entry.Entry.TheVariants.{Send, Recv, Crash, Recover}
use Rattle.rcv_model.specs.Net.{Net}
use Rattle.rcv_picture.specs.declared.group.Counts.{Counts}
use Rattle.rcv_picture.specs.declared.group.Says.{Says}
use Rattle.rcv_picture.specs.declared.group.Says.TheVariants as says
use Rattle.rcv_rows.specs.Told.{is_send, AreCounts, AreRows, IsShown, IsSaid, AreWires}

-- Two pictures that show the same entries have the same rows.
abbrev pub RowsAreDetermined : Type 0
RowsAreDetermined =
    (kept : List Event) (entries : List Entry) (rows other : List Says)
    → AreRows kept entries rows → AreRows kept entries other
    → ((place : ℕ) → IsShown rows place ↔ IsShown other place) → rows ≡ other

-- They have the same wires, except for their order.
abbrev pub WiresAreDetermined : Type 0
WiresAreDetermined =
    (net : Net) (kept : List Event) (entries : List Entry) (rows wires other : List Says)
    → AreWires net kept entries (IsShown rows) wires → AreWires net kept entries (IsShown rows) other
    → (s t : ℕ) (undone : Bool) → IsSaid (says.Arrow s t undone) wires → IsSaid (says.Arrow s t undone) other

-- How many entries a row stands for.
abbrev pub size_of : Says → ℕ
size_of (says.Entry place undone) = 1
size_of (says.Fold first end counts) = end - first
size_of says.Nothing = 0
size_of (says.Arrow s t undone) = 0

-- Single entries and the entries in folds are all entries.
abbrev pub RowsAddUp : Type 0
RowsAddUp =
    (kept : List Event) (entries : List Entry) (rows : List Says) → AreRows kept entries rows
    → sum_by size_of rows ≡ length entries

-- 1 if there is a Send, or else 0.
abbrev pub send_in : Option Entry → ℕ
send_in None = 0
send_in (Some (Send event)) = 1
send_in (Some (Recv event)) = 0
send_in (Some (Crash role)) = 0
send_in (Some (Recover role concerned keeps removed)) = 0

-- How many Sends a row stands for, as it says.
abbrev pub sends_of : List Entry → Says → ℕ
sends_of entries (says.Entry place undone) = send_in (slice_get entries place)
sends_of entries (says.Fold first end counts) = counts.sends
sends_of entries says.Nothing = 0
sends_of entries (says.Arrow s t undone) = 0

-- The Sends that are shown, and those in folds, are all Sends.
abbrev pub SendsAddUp : Type 0
SendsAddUp =
    (kept : List Event) (entries : List Entry) (rows : List Says) → AreRows kept entries rows
    → sum_by (sends_of entries) rows ≡ count_by is_send entries

-- Each entry of a run counts as one kind.
abbrev pub CountsAddUp : Type 0
CountsAddUp =
    (kept : List Event) (run : List Entry) (counts : Counts) → AreCounts kept run counts
    → counts.sends + counts.receives + counts.crashes + counts.recoveries ≡ length run
