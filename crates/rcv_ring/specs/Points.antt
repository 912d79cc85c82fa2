-- Points and messages that may pass through a ring.
use Rattle.std.specs.Prelude.{◌≡◌, ℕ, ◌^◌, ◌≤◌, true, List}
use Rattle.rcv_tree.specs.Bits.{IsPoint, has_point}
use Rattle.rcv_tree.specs.declared.event.Message.{Message}

-- p is a point of the set that these four words hold
abbrev pub HasPoint : List ℕ → ℕ → Type 0
HasPoint words p = IsPoint p × (has_point words p ≡ true)

-- A message that a ring of these points carries.
abbrev pub CanPass : List ℕ → Message → Type 0
CanPass points m = HasPoint points m.point × (m.stamp ≤ 2 ^ 62)
