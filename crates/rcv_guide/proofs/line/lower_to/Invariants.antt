use Rattle.std.proofs.Common.{◌≡◌, ◌≤◌, ℕ}
use Rattle.std.specs.Prelude.{slice_index}
use Rattle.rcv_points.specs.Follow.{net_in}
use Rattle.rcv_depend.specs.Cuts.{IsCounted}
use Rattle.rcv_guide.proofs.line.lower_to.Given as goal

abbrev pub invariant-loop-counted : goal.invariant-loop-counted
invariant-loop-counted l =
    IsCounted (net_in l.points) l.ledger.logs l.counted
    × (l.count ≤ slice_index l.counted.counts l.role)
    × ((r : ℕ) → (r ≡ l.role → ⊥) → slice_index l.counted.counts r ≡ slice_index l.fn.counted.counts r)

abbrev pub decreases-loop-counted : goal.decreases-loop-counted
decreases-loop-counted l = slice_index l.counted.counts l.role
