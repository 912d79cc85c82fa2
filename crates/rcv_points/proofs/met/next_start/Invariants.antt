use Rattle.std.proofs.Common.{◌≤◌}
use Rattle.rcv_points.specs.Follow.{net_in}
use Rattle.rcv_points.proofs.Meeting.{NoneSoFar}
use Rattle.rcv_points.proofs.met.next_start.Given as goal

abbrev pub invariant-loop-before : goal.invariant-loop-before
invariant-loop-before l = (l.place ≤ l.before) × NoneSoFar (net_in l.points) l.role l.place l.before
