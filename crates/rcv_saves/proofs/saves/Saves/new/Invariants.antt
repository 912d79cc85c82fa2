use Rattle.std.proofs.Common.{◌≡◌, replicate, []}
use Rattle.rcv_tree.specs.Lists.{lists_in}
use Rattle.rcv_saves.proofs.saves.Saves.new.Given as goal

abbrev pub invariant-loop-role : goal.invariant-loop-role
invariant-loop-role l = lists_in l.told.items ≡ replicate l._role []
