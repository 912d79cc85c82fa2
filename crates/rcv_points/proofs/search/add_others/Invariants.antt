use Rattle.std.proofs.Common.{take}
use Rattle.rcv_points.specs.Follow.{net_in}
use Rattle.rcv_points.specs.Found.{Adds, IsOther}
use Rattle.rcv_points.proofs.search.add_others.Given as goal

abbrev pub invariant-loop-point : goal.invariant-loop-point
invariant-loop-point l = Adds (IsOther (net_in l.points) l.fn.role (take l.point-index l.point-items)) l.fn.places l.places
