-- The first lost events of the roles so far.
use Rattle.std.proofs.Common.{◌≡◌, ℕ, ◌<◌, length}
use Rattle.std.specs.Prelude.{None, slice_get, slice_index_or}
use Rattle.rcv_tree.specs.Lists.{lists_in}
use Rattle.rcv_story.specs.Stacks.{stack_at, left_count}
use Rattle.rcv_story.proofs.stacks.firsts_of.Given as goal

abbrev pub invariant-loop-role : goal.invariant-loop-role
invariant-loop-role l = record {
  eight : length l.firsts ≡ 8;
  each : (r : ℕ) → r < l.role → slice_index_or l.firsts r None ≡ slice_get (stack_at (lists_in l.stacks.items) r) (left_count l.concerned l.kept r (length (stack_at (lists_in l.stacks.items) r)));
}
