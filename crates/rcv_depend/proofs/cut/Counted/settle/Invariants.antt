use Rattle.std.proofs.Common.{ℕ, ◌≤◌}
use Rattle.std.specs.Prelude.{slice_index}
use Rattle.std.specs.List.{sum}
use Rattle.rcv_points.specs.Follow.{net_in}
use Rattle.rcv_depend.specs.Cuts.{IsCounted, StaysAbove}
use Rattle.rcv_depend.proofs.cut.Counted.settle.Given as goal

abbrev pub invariant-loop-place : goal.invariant-loop-place
invariant-loop-place g l =
    IsCounted (net_in l.points) (g.L.EventLogs.logs l.logs) l.self
    × ((r : ℕ) → slice_index l.self.counts r ≤ slice_index l.fn.self.counts r)
    × StaysAbove (net_in l.points) (g.L.EventLogs.logs l.logs) l.fn.self.counts l.self.counts

abbrev pub decreases-loop-place : goal.decreases-loop-place
decreases-loop-place g l = sum l.self.counts
