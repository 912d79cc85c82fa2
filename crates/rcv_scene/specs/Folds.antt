-- The rows of folds: what each role did in one, by counting its entries.
use Rattle.std.specs.Prelude.{◌≡◌, ℕ, ◌+◌, ◌-◌, ◌==◌, ◌&&◌, ◌||◌, Bool, true, false, Option, Some, None, List, [], ◌∷◌, ◌++◌, flat_map, slice_get, codes, decimal}
use Rattle.std.specs.List.{count_by, range_with_len}
use Rattle.rcv_tree.specs.declared.entry.Entry.{Entry}
use Rattle.rcv_tree.specs.declared.entry.Entry.TheVariants.{Send, Recv, Crash, Recover}
use Rattle.rcv_session.specs.Session.{roles_of}
use Rattle.rcv_picture.specs.declared.pixels.Pixels.{Pixels}
use Rattle.rcv_picture.specs.declared.look.Look.TheVariants as looks
use Rattle.rcv_picture.specs.declared.shape.Anchor.TheVariants.{Start, Middle, End}
use Rattle.rcv_picture.specs.declared.group.Counts.{Counts}
use Rattle.rcv_scene.specs.declared.counts.Act.{Act}
use Rattle.rcv_scene.specs.declared.counts.Act.TheVariants.{Sends, Takes, Loses}
use Rattle.rcv_scene.specs.declared.layout.Row.{Row}
use Rattle.rcv_scene.specs.Seen.{Seen, Frame, Words, pixels, at, further, back}
use Rattle.rcv_scene.specs.Wording.{entries_words, failure_words}
use Rattle.rcv_scene.specs.Grid.{Grid, Scene, column, IsFoldRow}
use Rattle.rcv_scene.specs.Wires.{or_false}

-- Whether an entry is a Send, or a Recv, of a role.
abbrev pub is_sent_by : ℕ → Entry → Bool
is_sent_by role (Send event) = event.role == role
is_sent_by role (Recv event) = false
is_sent_by role (Crash other) = false
is_sent_by role (Recover other concerned keeps removed) = false

abbrev pub is_taken_by : ℕ → Entry → Bool
is_taken_by role (Send event) = false
is_taken_by role (Recv event) = event.role == role
is_taken_by role (Crash other) = false
is_taken_by role (Recover other concerned keeps removed) = false

-- Whether a role does so by an entry: it sends, it takes a message, or it does either and that is undone.
abbrev pub does_by : ℕ → Act → Bool → Entry → Bool
does_by role Sends undone entry = is_sent_by role entry
does_by role Takes undone entry = is_taken_by role entry
does_by role Loses undone entry = undone && (is_sent_by role entry || is_taken_by role entry)

abbrev pub does_in : ℕ → Act → Bool → Option Entry → Bool
does_in role act undone (Some entry) = does_by role act undone entry
does_in role act undone None = false

-- The entry at a place is marked as undone.
abbrev pub undone_at : Scene → ℕ → Bool
undone_at scene place = or_false (slice_get scene.undone place)

abbrev pub does : Scene → ℕ → Act → ℕ → Bool
does scene role act place = does_in role act (undone_at scene place) (slice_get scene.entries place)

-- How often, by the entries from the first up to before the end.
abbrev pub times : Scene → ℕ → Act → ℕ → ℕ → ℕ
times scene role act first end = count_by (does scene role act) (range_with_len first (end - first))

-- `S sent T taken`, and `U of them undone`.
abbrev pub all_words : ℕ → ℕ → List ℕ
all_words sent taken = decimal sent ++ codes " sent " ++ decimal taken ++ codes " taken"

abbrev pub lost_words : ℕ → List ℕ
lost_words undone = decimal undone ++ codes " of them undone"

-- What stands in a role's column: `nothing`; what it did, if nothing of that is undone; or both lines.
pub data IsDone (x y : Pixels) (sent taken undone : ℕ) (drawn : List Seen) : Type 0 where
  nothing_done : sent ≡ 0 → taken ≡ 0 → drawn ≡ Words (at x (further y 4)) Middle looks.Note (codes "nothing") ∷ []
      → IsDone x y sent taken undone drawn
  all_kept : undone ≡ 0 → drawn ≡ Words (at x (further y 4)) Middle looks.Small (all_words sent taken) ∷ []
      → IsDone x y sent taken undone drawn
  some_undone : drawn ≡ Words (at x (back y 2)) Middle looks.Small (all_words sent taken)
      ∷ Words (at x (further y 12)) Middle looks.NoteLost (lost_words undone) ∷ []
      → IsDone x y sent taken undone drawn

-- What is drawn of a role: what it did by the fold's entries.
abbrev pub IsFoldPart : Scene → Pixels → ℕ → ℕ → ℕ → List Seen → Type 0
IsFoldPart scene y first end role drawn =
    IsDone (column scene.grid role) y (times scene role Sends first end) (times scene role Takes first end) (times scene role Loses first end) drawn

-- The first so many roles are drawn so, one after another.
pub data AreFoldParts (scene : Scene) (y : Pixels) (first end : ℕ) : ℕ → List Seen → Type 0 where
  NoRole : AreFoldParts scene y first end 0 []
  NextRole : (role next : ℕ) (before these all : List Seen) → AreFoldParts scene y first end role before
      → IsFoldPart scene y first end role these → next ≡ role + 1 → all ≡ before ++ these
      → AreFoldParts scene y first end next all

-- Something more was drawn: what stands in a role's column, and in those of the first so many.
pub record AddsDone (x y : Pixels) (sent taken undone : ℕ) (old new : List Seen) : Type 0 where
  pub part : List Seen
  pub is : new ≡ old ++ part
  pub right : IsDone x y sent taken undone part

pub record AddsFoldParts (scene : Scene) (y : Pixels) (first end count : ℕ) (old new : List Seen) : Type 0 where
  pub parts : List Seen
  pub is : new ≡ old ++ parts
  pub right : AreFoldParts scene y first end count parts

-- The numbers of the first and the last entry, and the texts beside the columns.
abbrev pub fold_numbers : Grid → Pixels → ℕ → ℕ → List Seen
fold_numbers grid y first end =
    Words (at grid.numbers (back y 3)) End looks.Note (decimal (first + 1))
    ∷ Words (at grid.numbers (further y 10)) End looks.Note (226 ∷ 128 ∷ 147 ∷ decimal end) ∷ []

abbrev pub fold_notes : Grid → Pixels → ℕ → ℕ → Counts → List Seen
fold_notes grid y first end counts =
    Words (at grid.notes (back y 2)) Start looks.Bold (entries_words (end - first))
    ∷ Words (at grid.notes (further y 11)) Start looks.Note (failure_words counts.crashes counts.recoveries) ∷ []

-- Something more was drawn: a fold's box in this row, its numbers, what each role did, and the texts beside the columns.
pub record AddsFold (scene : Scene) (row : Row) (first end : ℕ) (counts : Counts) (old new : List Seen) : Type 0 where
  pub left : Pixels
  pub width : Pixels
  pub height : Pixels
  pub parts : List Seen
  pub each : AreFoldParts scene row.middle first end (roles_of scene.setup) parts
  pub is : new ≡ old
      ++ (Frame (at left (further row.top 4)) width height (pixels 6) looks.FoldBox ∷ fold_numbers scene.grid row.middle first end)
      ++ parts ++ fold_notes scene.grid row.middle first end counts

-- The group of a fold, in its row.
pub record IsFoldDrawn (scene : Scene) (first end : ℕ) (counts : Counts) (drawn : List Seen) : Type 0 where
  pub row : Row
  pub in_row : IsFoldRow scene first row
  pub adds : AddsFold scene row first end counts [] drawn
