-- It is the first one of those that are left.
use Rattle.std.proofs.Common.{◌≡◌, drop}
use Rattle.std.specs.Prelude.{slice_index}
use Rattle.rcv_guided.specs.Failures.{first_below}
use Rattle.rcv_guided.proofs.counts.first_below.Given as goal

abbrev pub invariant-loop-one : goal.invariant-loop-one
invariant-loop-one l = first_below (slice_index l.stable) l.failed ≡ first_below (slice_index l.stable) (drop l.one-index l.failed)
