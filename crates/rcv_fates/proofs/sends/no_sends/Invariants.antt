use Rattle.std.proofs.Common.{◌≡◌, replicate, []}
use Rattle.rcv_tree.specs.Lists.{lists_in}
use Rattle.rcv_fates.proofs.sends.no_sends.Given as goal

abbrev pub invariant-loop-role : goal.invariant-loop-role
invariant-loop-role l = lists_in l.lists.items ≡ replicate l._role []
