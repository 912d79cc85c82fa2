-- The stacks of the roles so far are cut, and the others are as they were.
use Rattle.std.proofs.Common.{◌≡◌, ℕ, ◌<◌, ◌≤◌, length, take}
use Rattle.rcv_tree.specs.Lists.{lists_in}
use Rattle.rcv_story.specs.Stacks.{stack_at, left_count}
use Rattle.rcv_story.proofs.stacks.cut.Given as goal

abbrev pub invariant-loop-role : goal.invariant-loop-role
invariant-loop-role l = record {
  eight : length l.stacks.items ≡ 8;
  done : (r : ℕ) → r < l.role → stack_at (lists_in l.stacks.items) r ≡ take (left_count l.concerned l.kept r (length (stack_at (lists_in l.fn.stacks.items) r))) (stack_at (lists_in l.fn.stacks.items) r);
  others : (r : ℕ) → l.role ≤ r → stack_at (lists_in l.stacks.items) r ≡ stack_at (lists_in l.fn.stacks.items) r;
}
