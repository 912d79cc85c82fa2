-- What stands after the entries of a told journal: where each role is, and whether all are at their end.
use Rattle.std.specs.Prelude.{◌≡◌, ℕ, ◌++◌, true, false, List, length, flat_map, Some, slice_get}
use Rattle.rcv_tree.specs.declared.protocol.Protocol.{Protocol}
use Rattle.rcv_model.specs.Net.{Net}
use Rattle.rcv_model.specs.Next.{IsNext}
use Rattle.rcv_model.specs.Journal.{numbers_at}
use Rattle.rcv_accept.specs.Accepted.{AcceptedView, net_for, roles_of}
use Rattle.rcv_told.specs.Told.{Remembered, down_at, made, place}
use Rattle.rcv_dialogue.specs.declared.answer.RoleState.{RoleState}
use Rattle.rcv_dialogue.specs.declared.answer.State.{State}
use Rattle.rcv_dialogue.specs.declared.answer.State.TheVariants as state
use Rattle.rcv_dialogue.specs.Answers.{role_line, end_line}

-- No point comes next for a role.
abbrev pub IsOver : Net → Remembered → ℕ → Type 0
IsOver net m r = (p : ℕ) → IsNext net r (place m r) p → ⊥

-- How a role stands: it is down; or it is up, and its part has ended; or it is up, and its part hasn't ended.
abbrev pub IsState : Net → Remembered → ℕ → State → Type 0
IsState net m r state.Down = down_at m r ≡ Some true
IsState net m r state.Done = (down_at m r ≡ Some false) × IsOver net m r
IsState net m r state.Waits = (down_at m r ≡ Some false) × (IsOver net m r → ⊥)

-- How many events of a role are kept, how many it ever made, and how it stands.
pub record IsStateOf (net : Net) (m : Remembered) (r : ℕ) (own : RoleState) : Type 0 where
  pub role : own.role ≡ r
  pub kept : own.kept ≡ made m r
  pub raw : own.raw ≡ (numbers_at m.roles r).raw
  pub stands : IsState net m r own.state

-- There is one for each of so many roles, in order.
pub record AreStates (net : Net) (roles : ℕ) (m : Remembered) (states : List RoleState) : Type 0 where
  pub all : length states ≡ roles
  pub each : (r : ℕ) (own : RoleState) → slice_get states r ≡ Some own → IsStateOf net m r own

-- The protocol as the lines of a dialogue see it.
abbrev pub accepted_in : Protocol → AcceptedView
accepted_in protocol = record { protocol = protocol }

-- The lines that a guide with this memory answers to `end`, without the first.
abbrev pub states_text : Protocol → List RoleState → List ℕ
states_text protocol states = flat_map (role_line (accepted_in protocol)) states ++ end_line states

pub record IsClosing (protocol : Protocol) (m : Remembered) (text : List ℕ) : Type 0 where
  pub states : List RoleState
  pub are : AreStates (net_for (accepted_in protocol)) (roles_of (accepted_in protocol)) m states
  pub is : text ≡ states_text protocol states
