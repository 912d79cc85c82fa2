-- The last kept events of the roles so far.
use Rattle.std.proofs.Common.{◌≡◌, ℕ, ◌<◌, length}
use Rattle.std.specs.Prelude.{None, slice_index_or}
use Rattle.rcv_tree.specs.Lists.{lists_in}
use Rattle.rcv_story.specs.Stacks.{stack_at, last_in}
use Rattle.rcv_story.proofs.stacks.lasts_of.Given as goal

abbrev pub invariant-loop-role : goal.invariant-loop-role
invariant-loop-role l = record {
  eight : length l.lasts ≡ 8;
  each : (r : ℕ) → r < l.role → slice_index_or l.lasts r None ≡ last_in (stack_at (lists_in l.stacks.items) r);
}
