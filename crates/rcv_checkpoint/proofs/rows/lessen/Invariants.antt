use Rattle.std.proofs.Common.{◌≡◌, ◌-◌, ◌<◌, ◌≤◌, ℕ, length}
use Rattle.std.specs.Prelude.{slice_index, vec_capacity}
use Rattle.rcv_checkpoint.proofs.rows.lessen.Given as goal

abbrev pub invariant-loop-place : goal.invariant-loop-place
invariant-loop-place l =
    record {
      long : length l.list.items ≡ length l.fn.list.items;
      done : (i : ℕ) → i < l.place → slice_index l.list.items i ≡ slice_index l.fn.list.items i - l.by;
      rest : (i : ℕ) → l.place ≤ i → slice_index l.list.items i ≡ slice_index l.fn.list.items i;
      room : vec_capacity l.list ≡ vec_capacity l.fn.list;
    }
