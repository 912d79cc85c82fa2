use Rattle.rcv_points.specs.Follow.{net_in}
use Rattle.rcv_depend.specs.Logs.{between}
use Rattle.rcv_depend.proofs.Filling.{IsFilled, IsTold}
use Rattle.rcv_depend.proofs.cut.Counted.all.Given as goal

abbrev pub invariant-loop-role : goal.invariant-loop-role
invariant-loop-role g l = IsFilled (g.L.EventLogs.logs l.logs) l.counted l.role

abbrev pub invariant-loop-from : goal.invariant-loop-from
invariant-loop-from g l = IsTold (net_in l.points) (g.L.EventLogs.logs l.logs) l.counted (between l.from 0)

abbrev pub invariant-loop-to : goal.invariant-loop-to
invariant-loop-to g l = IsTold (net_in l.points) (g.L.EventLogs.logs l.logs) l.counted (between l.from l.to)
