use Rattle.std.proofs.Common.{take}
use Rattle.rcv_points.specs.Follow.{net_in}
use Rattle.rcv_points.specs.Found.{HasEnd}
use Rattle.rcv_points.proofs.reach.some_ends.Given as goal

abbrev pub invariant-loop-place : goal.invariant-loop-place
invariant-loop-place l = HasEnd (net_in l.points) (take l.place-index l.place-items) → ⊥
