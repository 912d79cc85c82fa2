use Rattle.std.proofs.Common.{◌<◌}
use Rattle.rcv_tree.specs.Bits.{members}
use Rattle.rcv_points.specs.Follow.{net_in}
use Rattle.rcv_points.specs.LaneSearch.{ReachedSoFar}
use Rattle.rcv_points.proofs.reach.reach_from.Given as goal

abbrev pub invariant-loop-lane : goal.invariant-loop-lane
invariant-loop-lane l = (l.own_lane < l.lane) × ReachedSoFar (net_in l.points) l.role l.place l.lane (members l.so_far.reach.come.0) l.so_far.reach.ends l.so_far.last_stage
