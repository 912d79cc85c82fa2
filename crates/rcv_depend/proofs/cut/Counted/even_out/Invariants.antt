use Rattle.std.proofs.Common.{ℕ, ◌<◌, ◌≤◌}
use Rattle.std.specs.Prelude.{slice_index}
use Rattle.std.specs.List.{sum}
use Rattle.rcv_points.specs.Follow.{net_in}
use Rattle.rcv_depend.specs.Cuts.{IsCounted, StaysAbove}
use Rattle.rcv_depend.proofs.cut.Counted.even_out.Given as goal

-- Where the channel is even by now, at least one event was taken off.
abbrev pub invariant-loop-self : goal.invariant-loop-self
invariant-loop-self g l =
    IsCounted (net_in l.points) (g.L.EventLogs.logs l.logs) l.self
    × ((r : ℕ) → slice_index l.self.counts r ≤ slice_index l.fn.self.counts r)
    × StaysAbove (net_in l.points) (g.L.EventLogs.logs l.logs) l.fn.self.counts l.self.counts
    × (sum l.self.counts ≤ sum l.fn.self.counts)
    × (slice_index l.self.taken l.place ≤ slice_index l.self.put l.place → sum l.self.counts < sum l.fn.self.counts)

abbrev pub decreases-loop-self : goal.decreases-loop-self
decreases-loop-self g l = sum l.self.counts
