use Rattle.std.proofs.Common.{◌≡◌, take}
use Rattle.rcv_tree.proofs.name.with_name.Given as goal

abbrev pub invariant-loop-name : goal.invariant-loop-name
invariant-loop-name l = l.list.items ≡ take l.name-index l.names
