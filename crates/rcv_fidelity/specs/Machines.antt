-- Steps of the roles' machines. They depend on what a machine does at its role's place, and on what lies in the channels to it.
use Rattle.std.specs.Prelude.{◌≡◌, ℕ, ◌<◌, List, ◌∷◌, ◌++◌}
use Rattle.rcv_tree.specs.declared.event.Event.{Event}
use Rattle.rcv_tree.specs.declared.event.Message.{Message}
use Rattle.rcv_tree.specs.declared.event.Dir.TheVariants.{Sent, Got}
use Rattle.rcv_model.specs.Net.{Net, IsIn}
use Rattle.rcv_model.specs.Run.{acts, place_of, channel}
use Rattle.rcv_project.specs.Act.{ActView, Sending, Receiving, Ended, IsActAt}
use Rattle.rcv_project.specs.Local.{LocalView, act_at, IsLocalOf}

-- Where role r stands after these events: at the point of its last one, or at 0.
abbrev pub place_after : ℕ → List Event → ℕ
place_after r h = place_of 0 (acts r h)

-- The event takes the message in front of the channel from this role: point, number and stamp are the message's.
abbrev pub TakesFront : Net → ℕ → List Event → Event → Type 0
TakesFront net from h e =
    (rest : List Message) × (channel net from e.role h ≡ record { point = e.point; value = e.value; stamp = e.sent } ∷ rest)

-- A machine that sends one of some points can make each Send of one of them. A machine that receives one of some points from
-- a role can make a Recv of one of them that takes the front of the channel. A machine at its end makes nothing.
abbrev pub CanMake : ActView → Net → List Event → Event → Type 0
CanMake (Sending points) net h e = (e.dir ≡ Sent) × IsIn e.point points
CanMake (Receiving from points) net h e = (e.dir ≡ Got) × IsIn e.point points × TakesFront net from h e
CanMake Ended net h e = ⊥

-- The machine of the event's role can make it after these events.
pub record IsMachineStep (net : Net) (h : List Event) (e : Event) : Type 0 where
  pub act : ActView
  pub does : IsActAt net e.role (place_after e.role h) act
  pub makes : CanMake act net h e

-- Each event is a step of its role's machine after the events before it.
abbrev pub AreMachineSteps : Net → List Event → Type 0
AreMachineSteps net h = (before after : List Event) (e : Event) → before ++ e ∷ after ≡ h → IsMachineStep net before e

-- The machines of so many roles as tables: for each place what the role does there.
abbrev pub AreTables : Net → ℕ → (ℕ → LocalView) → Type 0
AreTables net roles tables = (r : ℕ) → r < roles → IsLocalOf net r (tables r)

-- The same steps, read off the tables.
pub record IsTableStep (net : Net) (roles : ℕ) (tables : ℕ → LocalView) (h : List Event) (e : Event) : Type 0 where
  pub declared : e.role < roles
  pub makes : CanMake (act_at (tables e.role) (place_after e.role h)) net h e

abbrev pub AreTableSteps : Net → ℕ → (ℕ → LocalView) → List Event → Type 0
AreTableSteps net roles tables h =
    (before after : List Event) (e : Event) → before ++ e ∷ after ≡ h → IsTableStep net roles tables before e
