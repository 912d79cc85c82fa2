-- The marks of events and crashes.
use Rattle.std.specs.Prelude.{◌≡◌, ℕ, ◌+◌, Bool, true, false, List, [], ◌∷◌, ◌++◌, codes, decimal}
use Rattle.rcv_tree.specs.declared.event.Event.{Event}
use Rattle.rcv_tree.specs.declared.event.Dir.{Dir}
use Rattle.rcv_tree.specs.declared.event.Dir.TheVariants.{Sent, Got}
use Rattle.rcv_picture.specs.declared.pixels.Pixels.{Pixels}
use Rattle.rcv_picture.specs.declared.look.Look.{Look}
use Rattle.rcv_picture.specs.declared.look.Look.TheVariants as looks
use Rattle.rcv_picture.specs.declared.shape.Anchor.TheVariants.{Start, Middle, End}
use Rattle.rcv_scene.specs.Seen.{Seen, Disc, Words, at, pixels, further, cross}
use Rattle.rcv_scene.specs.Grid.{Grid, Scene, column, IsOwnHeight}
use Rattle.rcv_scene.specs.Labels.{IsSendLabel, IsRecvLabel}

-- A Send is dark and a Recv is light, and both look different if they are undone. The number on them looks different on a Send,
-- on a Recv, and on an undone Recv.
abbrev pub mark_look : Dir → Bool → Look
mark_look Sent false = looks.Send
mark_look Sent true = looks.SendUndone
mark_look Got false = looks.Receive
mark_look Got true = looks.ReceiveUndone

abbrev pub point_look : Dir → Bool → Look
point_look Sent false = looks.PointOnSend
point_look Sent true = looks.PointOnSend
point_look Got false = looks.PointOnReceive
point_look Got true = looks.PointUndone

-- The number of the entry at a place, counted from 1, beside the columns at this height.
abbrev pub number_words : Grid → ℕ → Pixels → Seen
number_words grid place y = Words (at grid.numbers (further y 4)) End looks.Note (decimal (place + 1))

-- The mark of an event: a disc in its role's column at this height, and on it the number of its point.
abbrev pub event_disc : Grid → Pixels → Event → Dir → Bool → List Seen
event_disc grid y event dir undone =
    Disc (at (column grid event.role) y) (pixels 8) (mark_look dir undone)
    ∷ Words (at (column grid event.role) (further y 3)) Middle (point_look dir undone) (decimal event.point)
    ∷ []

-- The mark of a Crash: a cross in its role's column at this height, and beside it the word.
abbrev pub crash_cross : Grid → Pixels → ℕ → List Seen
crash_cross grid y role =
    cross (at (column grid role) y) 8
    ++ Words (at (further (column grid role) 14) (further y 4)) Start looks.Failed (codes "crash") ∷ []

-- The words beside the mark of an event are its label.
abbrev pub IsLabel : Scene → ℕ → Pixels → Event → Dir → Bool → List Seen → Type 0
IsLabel scene place y event Sent undone drawn = IsSendLabel scene y event undone drawn
IsLabel scene place y event Got undone drawn = IsRecvLabel scene place y event undone drawn

-- Something more was drawn: the mark of an event, and its label beside it.
pub record AddsEvent (scene : Scene) (place : ℕ) (y : Pixels) (event : Event) (dir : Dir) (undone : Bool) (old new : List Seen) : Type 0 where
  pub words : List Seen
  pub label : IsLabel scene place y event dir undone words
  pub is : new ≡ old ++ (event_disc scene.grid y event dir undone ++ words)

-- The group of an event: the entry's number, its mark, and its label beside it.
pub record IsEventDrawn (scene : Scene) (place : ℕ) (event : Event) (dir : Dir) (undone : Bool) (drawn : List Seen) : Type 0 where
  pub y : Pixels
  pub height : IsOwnHeight scene place y
  pub words : List Seen
  pub label : IsLabel scene place y event dir undone words
  pub is : drawn ≡ number_words scene.grid place y ∷ event_disc scene.grid y event dir undone ++ words

-- The group of a Crash: the entry's number, and its mark.
pub record IsCrashDrawn (scene : Scene) (place role : ℕ) (drawn : List Seen) : Type 0 where
  pub y : Pixels
  pub height : IsOwnHeight scene place y
  pub is : drawn ≡ number_words scene.grid place y ∷ crash_cross scene.grid y role
