-- The roles so far are looked at.
use Rattle.std.proofs.Common.{◌≡◌, ℕ, ◌<◌, ◌≤◌}
use Rattle.std.specs.Prelude.{◌||◌, nat_lt, slice_index}
use Rattle.rcv_tree.specs.Bits.{has_bit}
use Rattle.rcv_guided.proofs.back.who_goes_back.Given as goal

abbrev pub invariant-loop-role : goal.invariant-loop-role
invariant-loop-role l = record {
  done : (r : ℕ) → r < l.role → has_bit l.back.0 r ≡ (has_bit l.fn.group.0 r || nat_lt (slice_index l.kept r) (slice_index l.before r));
  left : (r : ℕ) → l.role ≤ r → r < 8 → has_bit l.back.0 r ≡ has_bit l.fn.group.0 r;
}
