use Rattle.std.proofs.Common.{◌≡◌, replicate, []}
use Rattle.rcv_tree.specs.Lists.{lists_in}
use Rattle.rcv_story.proofs.stacks.no_stacks.Given as goal

abbrev pub invariant-loop-role : goal.invariant-loop-role
invariant-loop-role l = lists_in l.stacks.items ≡ replicate l._role []
