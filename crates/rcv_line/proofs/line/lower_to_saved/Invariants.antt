use Rattle.std.proofs.Common.{◌<◌, ◌≤◌, ◌%◌, ℕ}
use Rattle.std.specs.Prelude.{slice_index}
use Rattle.rcv_points.specs.Follow.{net_in}
use Rattle.rcv_depend.specs.Cuts.{IsCounted}
use Rattle.rcv_line.specs.Line.{IsAboveLines}
use Rattle.rcv_line.proofs.line.lower_to_saved.Given as goal

-- Where the role stands where it has saved by now, at least one event was taken off.
abbrev pub invariant-loop-counted : goal.invariant-loop-counted
invariant-loop-counted l =
    IsCounted (net_in l.points) l.ledger.logs l.counted
    × ((r : ℕ) → slice_index l.counted.counts r ≤ slice_index l.fn.counted.counts r)
    × (slice_index l.counted.counts l.role % slice_index l.every l.role < 1
    → slice_index l.counted.counts l.role < slice_index l.fn.counted.counts l.role)
    × (IsAboveLines (net_in l.points) l.ledger.logs (slice_index l.every) l.fn.counted.counts
    → IsAboveLines (net_in l.points) l.ledger.logs (slice_index l.every) l.counted.counts)

abbrev pub decreases-loop-counted : goal.decreases-loop-counted
decreases-loop-counted l = slice_index l.counted.counts l.role
