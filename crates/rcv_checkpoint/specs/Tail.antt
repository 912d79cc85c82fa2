-- What contracts see of the states from a base on.
use Rattle.std.specs.Prelude.{◌≡◌, ℕ, ℤ, ◌+◌, ◌-◌, ◌*◌, ◌^◌, ◌<◌, ◌≤◌, List, length, drop, Some, slice_get, slice_index_or}
use Rattle.rcv_checkpoint.specs.declared.state.State.{State}
use Rattle.rcv_checkpoint.specs.Rows.{nowhere}
use Rattle.rcv_checkpoint.specs.Stack.{StackView, held}

-- The states after `base`, `base + 1` and so on events, at least one; those before are forgotten. Every how many events
-- one is durable; for how many events in all there is room.
pub record TailView : Type 0 where
  pub base : ℕ
  pub states : List State
  pub every : ℕ
  pub room : ℕ

-- How many events there are, forgotten ones too.
abbrev pub made : TailView → ℕ
made tail = tail.base + (length tail.states - 1)

-- The state after so many events stands here.
abbrev pub place_of : TailView → ℕ → ℕ
place_of tail count = count - tail.base

-- A state is held after so many events.
abbrev pub HasState : TailView → ℕ → Type 0
HasState tail count = (tail.base ≤ count) × (count ≤ made tail)

-- The variables after all of them.
abbrev pub final_vars : TailView → List ℤ
final_vars tail = (slice_index_or tail.states (length tail.states - 1) nowhere).vars

-- The greatest multiple of `every` that is at most the number of events.
pub record IsSaved (tail : TailView) (count : ℕ) : Type 0 where
  pub multiple : (k : ℕ) × (k * tail.every ≡ count)
  pub within : count ≤ made tail
  pub greatest : (other : ℕ) → ((k : ℕ) × (k * tail.every ≡ other)) → other ≤ made tail → other ≤ count

-- The tail with these states; and from this base on.
abbrev pub with_held : TailView → List State → TailView
with_held tail states = record { base = tail.base; states = states; every = tail.every; room = tail.room }

abbrev pub from_base : TailView → ℕ → TailView
from_base tail base = record { base = base; states = drop (base - tail.base) tail.states; every = tail.every; room = tail.room }

-- The states of a stack whose first one is that after `before` events, from the base on.
abbrev pub tail_of : StackView → (before base : ℕ) → TailView
tail_of stack before base =
    record { base = base; states = drop (base - before) stack.states; every = stack.every; room = stack.room }

-- The base is one of the stack's, and the counts fit their type.
pub record IsTail (stack : StackView) (before base every : ℕ) : Type 0 where
  pub some : 0 < length stack.states
  pub order : before ≤ base
  pub within : base ≤ before + held stack
  pub every_is : stack.every ≡ every
  pub steps : 1 ≤ every
  pub few : before + held stack < 2 ^ 32

-- The states after `base`, `base + 1` and so on, up to `count` events. The one after n of them is `state n`.
pub record AreFrom (state : ℕ → State) (base count : ℕ) (states : List State) : Type 0 where
  pub all : base + length states ≡ count + 1
  pub each : (n : ℕ) → base ≤ n → n ≤ count → slice_get states (n - base) ≡ Some (state n)
