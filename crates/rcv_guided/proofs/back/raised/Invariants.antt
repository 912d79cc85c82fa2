-- The roles so far are looked at.
use Rattle.std.proofs.Common.{◌≡◌, ℕ, ◌<◌, ◌≤◌, false}
use Rattle.std.specs.Prelude.{nat_lt, slice_index}
use Rattle.rcv_tree.specs.Bits.{has_bit}
use Rattle.rcv_guided.proofs.back.raised.Given as goal

abbrev pub invariant-loop-role : goal.invariant-loop-role
invariant-loop-role l = record {
  done : (r : ℕ) → r < l.role → has_bit l.higher.0 r ≡ nat_lt (slice_index l.before r) (slice_index l.incarnations r);
  left : (r : ℕ) → l.role ≤ r → r < 8 → has_bit l.higher.0 r ≡ false;
}
