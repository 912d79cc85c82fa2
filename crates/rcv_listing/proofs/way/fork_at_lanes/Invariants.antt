use Rattle.std.proofs.Common.{ℕ, ◌<◌}
use Rattle.rcv_points.specs.Follow.{net_in}
use Rattle.rcv_listing.specs.Way.{IsForkOf}
use Rattle.rcv_listing.proofs.way.fork_at_lanes.Given as goal

abbrev pub invariant-loop-lane : goal.invariant-loop-lane
invariant-loop-lane l = (k p : ℕ) → k < l.lane → IsForkOf (net_in l.points) l.role l.place ((net_in l.points).begins k) p → ⊥
