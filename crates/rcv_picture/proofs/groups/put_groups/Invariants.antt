-- The groups so far.
use Rattle.std.proofs.Common.{◌≡◌, ◌++◌, flat_map, take}
use Rattle.rcv_picture.specs.Drawn.{group_line}
use Rattle.rcv_picture.proofs.groups.put_groups.Given as goal

abbrev pub invariant-loop-group : goal.invariant-loop-group
invariant-loop-group l = l.text ≡ l.fn.text ++ flat_map group_line (take l.group-index l.groups)
