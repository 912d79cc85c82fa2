-- What a recovery takes back, as numbers.
use Rattle.std.specs.Prelude.{◌≡◌, ℕ, ◌-◌, ◌<◌, ◌≤◌, min, if◌then◌else◌, List, [], length, slice_index, slice_index_or}
use Rattle.std.specs.List.{sum_by, range_with_len}
use Rattle.rcv_tree.specs.Bits.{is_listed}
use Rattle.rcv_tree.specs.declared.event.Event.{Event}
use Rattle.rcv_model.specs.Net.{Net}
use Rattle.rcv_model.specs.Run.{acts, put, taken}
use Rattle.rcv_model.specs.Journal.{Rules, State, durable, group_of}

-- The sum over the declared roles.
abbrev pub sum_over : ℕ → (ℕ → ℕ) → ℕ
sum_over roles f = sum_by f (range_with_len 0 roles)

-- How many of its kept events role q hasn't saved, if it fails with p; 0 for another role.
abbrev pub lost_by : Rules → State → ℕ → ℕ → ℕ
lost_by rules s p q = if is_listed (group_of rules p) q then length (acts q s.kept) - durable rules s q else 0

-- How many events are lost if p's group fails.
abbrev pub lost_in : Rules → State → ℕ → ℕ
lost_in rules s p = sum_over rules.roles (lost_by rules s p)

-- The message number k of the channel from s to r is received again: it had been received, its Send is kept, and its Recv
-- isn't.
pub record IsReceivedAgain (net : Net) (old new : List Event) (s r k : ℕ) : Type 0 where
  pub received : k < length (taken net s r old)
  pub sent : k < length (put net s r new)
  pub undone : length (taken net s r new) ≤ k

-- How many messages of the channel are.
abbrev pub again_on : Net → List Event → List Event → ℕ → ℕ → ℕ
again_on net old new s r = min (length (taken net s r old)) (length (put net s r new)) - length (taken net s r new)

-- How many messages of all channels are.
abbrev pub again_in : Net → ℕ → List Event → List Event → ℕ
again_in net roles old new = sum_over roles (λ s. sum_over roles (again_on net old new s))

-- So many messages have been received from s by each declared role, and from each declared role by each other one.
pub record HaveReceivedFrom (net : Net) (roles : ℕ) (h : List Event) (s : ℕ) (received : List ℕ) : Type 0 where
  pub eight : length received ≡ 8
  pub each : (r : ℕ) → r < roles → slice_index received r ≡ length (taken net s r h)

abbrev pub HaveReceived : Net → ℕ → List Event → List (List ℕ) → Type 0
HaveReceived net roles h received = (s : ℕ) → s < roles → HaveReceivedFrom net roles h s (slice_index_or received s [])
