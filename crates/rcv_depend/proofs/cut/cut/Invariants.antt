use Rattle.std.specs.Prelude.{slice_index}
use Rattle.rcv_points.specs.Follow.{net_in}
use Rattle.rcv_depend.specs.Keeps.{ceiling_of}
use Rattle.rcv_depend.proofs.Keeping.{IsLow}
use Rattle.rcv_depend.specs.Cuts.{IsCounted, IsAbove}
use Rattle.rcv_depend.proofs.cut.cut.Given as goal

abbrev pub invariant-loop-role : goal.invariant-loop-role
invariant-loop-role g l =
    IsCounted (net_in l.points) (g.L.EventLogs.logs l.logs) l.counted
    × IsLow l.keeps l.counted.counts l.role
    × IsAbove (net_in l.points) (g.L.EventLogs.logs l.logs) (ceiling_of l.keeps) l.counted.counts

abbrev pub invariant-loop-counted : goal.invariant-loop-counted
invariant-loop-counted g l =
    IsCounted (net_in l.points) (g.L.EventLogs.logs l.logs) l.counted
    × IsLow l.keeps l.counted.counts l.role
    × IsAbove (net_in l.points) (g.L.EventLogs.logs l.logs) (ceiling_of l.keeps) l.counted.counts

abbrev pub decreases-loop-counted : goal.decreases-loop-counted
decreases-loop-counted g l = slice_index l.counted.counts l.role
