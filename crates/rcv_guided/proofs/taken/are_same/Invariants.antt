-- They are the same so far.
use Rattle.std.proofs.Common.{◌≡◌, take}
use Rattle.rcv_guided.proofs.taken.are_same.Given as goal

abbrev pub invariant-loop-place : goal.invariant-loop-place
invariant-loop-place l = take l.place l.ones ≡ take l.place l.others
