use Rattle.std.proofs.Common.{◌-◌}
use Rattle.rcv_points.specs.Follow.{net_in}
use Rattle.rcv_points.specs.Found.{IsOther, IsWayFrom}
use Rattle.rcv_points.proofs.Searching.{SoFar, LeadsOn}
use Rattle.rcv_points.proofs.search.places_from.Given as goal

abbrev pub invariant-loop-done : goal.invariant-loop-done
invariant-loop-done l = SoFar (IsOther (net_in l.points) l.fn.role l.first) (IsWayFrom (net_in l.points) l.fn.role l.first) (LeadsOn (net_in l.points) l.fn.role) l.places l.done

abbrev pub decreases-loop-done : goal.decreases-loop-done
decreases-loop-done l = 257 - l.done
