use Rattle.std.proofs.Common.{◌≡◌, ◌<◌, ◌≤◌, ◌||◌, ◌&&◌, ℕ, length}
use Rattle.rcv_tree.specs.Bits.{has_bit}
use Rattle.rcv_do.specs.Rows.{has}
use Rattle.rcv_do.proofs.reach.join_through.Given as goal

abbrev pub invariant-loop-index : goal.invariant-loop-index
invariant-loop-index l = record {
  long : length l.rows ≡ length l.fn.rows;
  through : (j : ℕ) → j < 64 → has_bit l.through.0 j ≡ has l.fn.rows l.place j;
  done : (i j : ℕ) → i < l.index → j < 64 → has l.rows i j ≡ (has l.fn.rows i j || (has l.fn.rows i l.place && has l.fn.rows l.place j));
  left : (i j : ℕ) → l.index ≤ i → has l.rows i j ≡ has l.fn.rows i j;
}
