use Rattle.std.proofs.Common.{◌-◌}
use Rattle.rcv_points.specs.Follow.{net_in}
use Rattle.rcv_points.specs.Found.{IsEndPoint, LeadsTo}
use Rattle.rcv_points.proofs.Searching.{SoFar}
use Rattle.rcv_points.proofs.LaneEnds.{Finishes}
use Rattle.rcv_points.proofs.ending.can_end.Given as goal

abbrev pub invariant-loop-done : goal.invariant-loop-done
invariant-loop-done l = SoFar (IsEndPoint (net_in l.points)) (Finishes (net_in l.points)) (LeadsTo (net_in l.points)) l.places l.done

abbrev pub decreases-loop-done : goal.decreases-loop-done
decreases-loop-done l = 257 - l.done
