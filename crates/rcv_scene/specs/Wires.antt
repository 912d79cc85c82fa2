-- The wires of messages that are received.
use Rattle.std.specs.Prelude.{◌≡◌, ◌⊎◌, ℕ, ◌+◌, ◌≤◌, Bool, true, false, List, [], ◌∷◌, ◌++◌, Option, Some, None, slice_get}
use Rattle.rcv_picture.specs.declared.pixels.Pixels.{Pixels}
use Rattle.rcv_picture.specs.declared.pixels.At.{At}
use Rattle.rcv_picture.specs.declared.look.Look.{Look}
use Rattle.rcv_picture.specs.declared.look.Look.TheVariants as looks
use Rattle.rcv_scene.specs.declared.layout.Row.{Row}
use Rattle.rcv_scene.specs.Seen.{Seen, Stroke, Way, at, further, back}
use Rattle.rcv_scene.specs.declared.wires.Wire.{Wire}
use Rattle.rcv_scene.specs.Grid.{Scene, column, IsOwnHeight, IsFoldRow, StandsAt}

-- Grey if the message isn't kept; else blue if it is received again.
abbrev pub wire_look : Bool → Bool → Look
wire_look true again = looks.WireUndone
wire_look false true = looks.WireAgain
wire_look false false = looks.Wire

abbrev pub or_false : Option Bool → Bool
or_false (Some b) = b
or_false None = false

-- The entry at this place receives a message again, as the story has it.
abbrev pub again_at : Scene → ℕ → Bool
again_at scene place = or_false (slice_get scene.story.again.items place)

-- Two lengths differ by 10 at most, and so do both distances of two places.
pub record AreClose (a b : Pixels) : Type 0 where
  pub one : a.0 ≤ b.0 + 10
  pub other : b.0 ≤ a.0 + 10

pub record AreNear (a b : At) : Type 0 where
  pub x : AreClose a.x b.x
  pub y : AreClose a.y b.y

-- A wire begins beside the mark of its Send, which this role makes; or at the lower edge of the fold that the Send is in.
pub data Begins (scene : Scene) (send role : ℕ) (place : At) : Type 0 where
  beside_send : (y : Pixels) → IsOwnHeight scene send y → AreNear (at (column scene.grid role) y) place → Begins scene send role place
  under_fold : (row : Row) → IsFoldRow scene send row → place.y ≡ back row.bottom 4 → Begins scene send role place

-- It ends beside the mark of its Recv, or at the upper edge of the fold that the Recv is in.
pub data Ends (scene : Scene) (receive role : ℕ) (place : At) : Type 0 where
  beside_recv : (y : Pixels) → IsOwnHeight scene receive y → AreNear (at (column scene.grid role) y) place → Ends scene receive role place
  over_fold : (row : Row) → IsFoldRow scene receive row → place.y ≡ further row.top 4 → Ends scene receive role place

-- It goes straight from one place to the other, or by some turns.
abbrev pub Goes : At → At → Look → List Seen → Type 0
Goes from to look drawn =
    (drawn ≡ Stroke from to look ∷ [])
    ⊎ ((turns : List At) × (drawn ≡ Way (from ∷ turns ++ to ∷ []) look ∷ []))

-- The wire is the one of a message between these entries, as they stand.
pub record IsWireOf (scene : Scene) (send receive sender receiver : ℕ) (wire : Wire) : Type 0 where
  pub recv : wire.receive ≡ receive
  pub by : wire.sender ≡ sender
  pub to : wire.receiver ≡ receiver
  pub send_stands : StandsAt scene send wire.from
  pub recv_stands : StandsAt scene receive wire.to

-- The group of an arrow: one wire from the mark of the Send to that of the Recv, and nothing else.
pub record IsWireDrawn (scene : Scene) (send receive sender receiver : ℕ) (undone : Bool) (drawn : List Seen) : Type 0 where
  pub from : At
  pub to : At
  pub begins : Begins scene send sender from
  pub ends : Ends scene receive receiver to
  pub goes : Goes from to (wire_look undone (again_at scene receive)) drawn
