use Rattle.std.proofs.Common.{◌≡◌, take, map}
use Rattle.rcv_look.specs.Drawing.{told_end}
use Rattle.rcv_look.proofs.told.told_ends.Given as goal

abbrev pub invariant-loop-own : goal.invariant-loop-own
invariant-loop-own l = l.ends.items ≡ map told_end (take l.own-index l.states)
