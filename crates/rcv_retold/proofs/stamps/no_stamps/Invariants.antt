use Rattle.std.proofs.Common.{◌≡◌, replicate, []}
use Rattle.rcv_tree.specs.Lists.{lists_in}
use Rattle.rcv_retold.proofs.stamps.no_stamps.Given as goal

abbrev pub invariant-loop-role : goal.invariant-loop-role
invariant-loop-role l = lists_in l.stamps.items ≡ replicate l._role []
