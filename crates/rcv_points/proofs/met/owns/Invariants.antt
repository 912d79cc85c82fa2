use Rattle.rcv_points.specs.Follow.{net_in}
use Rattle.rcv_points.proofs.Meeting.{NoneOwn}
use Rattle.rcv_points.proofs.met.owns.Given as goal

abbrev pub invariant-loop-before : goal.invariant-loop-before
invariant-loop-before l = NoneOwn (net_in l.points) l.role l.lane l.before
