-- What is seen of shapes: all of them, except for where their places and texts lie in memory.
use Rattle.std.specs.Prelude.{◌≡◌, ℕ, ◌+◌, ◌-◌, ◌^◌, min, Bool, true, false, Option, Some, None, List, [], ◌∷◌, ◌++◌, map, filter}
use Rattle.rcv_picture.specs.declared.pixels.Pixels.{Pixels}
use Rattle.rcv_picture.specs.declared.pixels.At.{At}
use Rattle.rcv_picture.specs.declared.look.Look.{Look}
use Rattle.rcv_picture.specs.declared.look.Look.TheVariants as looks
use Rattle.rcv_picture.specs.declared.shape.Anchor.{Anchor}
use Rattle.rcv_picture.specs.declared.shape.Shape.{Shape}
use Rattle.rcv_picture.specs.declared.shape.Shape.TheVariants.{Line, Rect, Circle, Path, Text}
use Rattle.rcv_scene.specs.declared.shapes.Shapes.{Shapes}
use Rattle.rcv_scene.specs.declared.shapes.Label.{Label}

-- A straight stroke, a frame, a disc, a way from place to place, and words.
pub data Seen : Type 0 where
  Stroke : (from to : At) (look : Look) → Seen
  Frame : (corner : At) (width height round : Pixels) (look : Look) → Seen
  Disc : (center : At) (radius : Pixels) (look : Look) → Seen
  Way : (places : List At) (look : Look) → Seen
  Words : (place : At) (anchor : Anchor) (look : Look) (text : List ℕ) → Seen

abbrev pub seen_of : Shape → Seen
seen_of (Line from to look) = Stroke from to look
seen_of (Rect corner width height round look) = Frame corner width height round look
seen_of (Circle center radius look) = Disc center radius look
seen_of (Path places look) = Way places.items look
seen_of (Text place anchor look text) = Words place anchor look text.items

abbrev pub seen : List Shape → List Seen
seen shapes = map seen_of shapes

-- What was drawn so far.
abbrev pub drawn_in : Shapes → List Seen
drawn_in shapes = seen shapes.items.items

-- A length, a length further, and a length back; none is greater than the greatest that fits, or below 0.
abbrev pub pixels : ℕ → Pixels
pixels n = record { 0 = n }

abbrev pub further : Pixels → ℕ → Pixels
further length by = record { 0 = min (length.0 + by) (2 ^ 32 - 1) }

abbrev pub back : Pixels → ℕ → Pixels
back length by = record { 0 = length.0 - by }

-- The place at these distances from the left and the upper edge.
abbrev pub at : Pixels → Pixels → At
at x y = record { x = x; y = y }

-- A cross around a place: two strokes that cross there.
abbrev pub cross : At → ℕ → List Seen
cross center size =
    Stroke (at (back center.x size) (back center.y size)) (at (further center.x size) (further center.y size)) looks.Crash
    ∷ Stroke (at (back center.x size) (further center.y size)) (at (further center.x size) (back center.y size)) looks.Crash
    ∷ []

-- The look of a cross.
abbrev pub is_crash : Look → Bool
is_crash looks.Crash = true
is_crash _ = false

-- A part of a mark: a disc, or a stroke of a cross.
abbrev pub is_mark : Seen → Bool
is_mark (Stroke from to look) = is_crash look
is_mark (Frame corner width height round look) = false
is_mark (Disc center radius look) = true
is_mark (Way places look) = false
is_mark (Words place anchor look text) = false

-- The marks among what is drawn.
abbrev pub marks : List Seen → List Seen
marks drawn = filter is_mark drawn

-- What is seen of a label.
abbrev pub strike_seen : Option (At × At) → List Seen
strike_seen (Some line) = Stroke line.0 line.1 looks.Strike ∷ []
strike_seen None = []

abbrev pub label_seen : Label → List Seen
label_seen label = Words label.place label.anchor label.look label.text.items ∷ strike_seen label.strike

abbrev pub labels_seen : Option Label → List Seen
labels_seen (Some label) = label_seen label
labels_seen None = []
