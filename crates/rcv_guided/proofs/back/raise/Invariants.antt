-- The incarnations of the roles so far are raised.
use Rattle.std.proofs.Common.{◌≡◌, ℕ, ◌+◌, ◌<◌, ◌≤◌, length}
use Rattle.std.specs.Prelude.{slice_index, if◌then◌else◌}
use Rattle.rcv_tree.specs.Bits.{has_bit}
use Rattle.rcv_guided.proofs.back.raise.Given as goal

abbrev pub invariant-loop-role : goal.invariant-loop-role
invariant-loop-role l = record {
  all : length l.incarnations.items ≡ length l.initial.incarnations.items;
  done : (r : ℕ) → r < l.role → slice_index l.incarnations.items r
      ≡ (if has_bit l.back.0 r then slice_index l.initial.incarnations.items r + 1 else slice_index l.initial.incarnations.items r);
  left : (r : ℕ) → l.role ≤ r → slice_index l.incarnations.items r ≡ slice_index l.initial.incarnations.items r;
}
