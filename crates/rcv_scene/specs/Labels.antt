-- What stands beside the mark of an event: the label of its message, with its value.
use Rattle.std.specs.Prelude.{◌≡◌, ℕ, ℤ, ◌≤◌, Bool, true, false, List, [], ◌∷◌, ◌++◌, codes}
use Rattle.std.specs.Fmt.{signed_decimal}
use Rattle.rcv_tree.specs.declared.event.Event.{Event}
use Rattle.rcv_points.specs.Follow.{PointsView, message_at}
use Rattle.rcv_picture.specs.declared.pixels.Pixels.{Pixels}
use Rattle.rcv_picture.specs.declared.look.Look.{Look}
use Rattle.rcv_picture.specs.declared.look.Look.TheVariants as looks
use Rattle.rcv_picture.specs.declared.shape.Anchor.{Anchor}
use Rattle.rcv_picture.specs.declared.shape.Anchor.TheVariants.{Start, End}
use Rattle.rcv_picture.specs.Names.{IsShortened}
use Rattle.rcv_scene.specs.Seen.{Seen, Stroke, Words, at, further, back}
use Rattle.rcv_scene.specs.Grid.{Scene, column}
use Rattle.rcv_scene.specs.Wires.{again_at}

-- The value after a label, if the message has one.
abbrev pub value_words : Bool → ℤ → List ℕ
value_words true value = codes " " ++ signed_decimal value
value_words false value = []

-- The label of the event's message, made to fit 16 letters, and its value if it has one.
pub record IsLabelText (points : PointsView) (event : Event) (text : List ℕ) : Type 0 where
  pub label : List ℕ
  pub fits : IsShortened 16 (message_at points event.point).label label
  pub is : text ≡ label ++ value_words (message_at points event.point).payload event.value

-- ` again` after the label of a message that is received again.
abbrev pub again_words : Bool → List ℕ
again_words true = codes " again"
again_words false = []

-- How the label of a Send looks; and that of a Recv, whose message is received again or not.
abbrev pub send_label_look : Bool → Look
send_label_look true = looks.LabelUndone
send_label_look false = looks.Label

abbrev pub recv_label_look : Bool → Bool → Look
recv_label_look true again = looks.NoteUndone
recv_label_look false true = looks.NoteAgain
recv_label_look false false = looks.Note

-- A text stands beside the middle of a column: it begins at least so far to the right of it, or ends so far to the left.
pub data IsBeside (x place : Pixels) (anchor : Anchor) : Type 0 where
  to_right : (far : ℕ) → 14 ≤ far → place ≡ further x far → anchor ≡ Start → IsBeside x place anchor
  to_left : (far : ℕ) → 14 ≤ far → place ≡ back x far → anchor ≡ End → IsBeside x place anchor

-- A line from here at this height goes through a text of an event that is undone, and none through another.
pub data IsStrike (undone : Bool) (x y : Pixels) (drawn : List Seen) : Type 0 where
  struck : (end : Pixels) → undone ≡ true → drawn ≡ Stroke (at x y) (at end y) looks.Strike ∷ [] → IsStrike undone x y drawn
  not_struck : undone ≡ false → drawn ≡ [] → IsStrike undone x y drawn

-- One text stands beside a column, so high; if it is of an undone event, a line goes through it at the other height.
pub record IsTextBeside (x y line : Pixels) (look : Look) (text : List ℕ) (undone : Bool) (drawn : List Seen) : Type 0 where
  pub place : Pixels
  pub anchor : Anchor
  pub strike : List Seen
  pub beside : IsBeside x place anchor
  pub through : IsStrike undone place line strike
  pub is : drawn ≡ Words (at place y) anchor look text ∷ strike

-- Beside the mark of a Send stands its label.
pub record IsSendLabel (scene : Scene) (y : Pixels) (event : Event) (undone : Bool) (drawn : List Seen) : Type 0 where
  pub text : List ℕ
  pub says : IsLabelText scene.points event text
  pub there : IsTextBeside (column scene.grid event.role) (back y 3) (back y 7) (send_label_look undone) text undone drawn

-- So a Recv is labelled: by its label, and ` again` if its message is received again.
pub record IsNote (scene : Scene) (y : Pixels) (event : Event) (undone again : Bool) (drawn : List Seen) : Type 0 where
  pub text : List ℕ
  pub says : IsLabelText scene.points event text
  pub there : IsTextBeside (column scene.grid event.role) (further y 4) (further y 1) (recv_label_look undone again)
      (text ++ again_words again) undone drawn

-- Beside the mark of a Recv stands its label, or nothing if its message wasn't received before.
pub data IsRecvLabel (scene : Scene) (place : ℕ) (y : Pixels) (event : Event) (undone : Bool) (drawn : List Seen) : Type 0 where
  no_label : again_at scene place ≡ false → drawn ≡ [] → IsRecvLabel scene place y event undone drawn
  labelled : IsNote scene y event undone (again_at scene place) drawn → IsRecvLabel scene place y event undone drawn
