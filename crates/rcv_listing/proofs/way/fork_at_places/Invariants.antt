use Rattle.std.proofs.Common.{ℕ, ◌<◌}
use Rattle.rcv_points.specs.Follow.{net_in}
use Rattle.rcv_listing.specs.Way.{IsForkOf}
use Rattle.rcv_listing.proofs.way.fork_at_places.Given as goal

abbrev pub invariant-loop-at : goal.invariant-loop-at
invariant-loop-at l = (k p : ℕ) → k < l.at → IsForkOf (net_in l.points) l.role l.place ((net_in l.points).offers k) p → ⊥
