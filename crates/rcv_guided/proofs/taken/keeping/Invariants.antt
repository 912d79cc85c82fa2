-- The roles so far.
use Rattle.std.proofs.Common.{◌≡◌}
use Rattle.std.specs.Prelude.{slice_index}
use Rattle.std.specs.List.{filter, range_with_len}
use Rattle.rcv_tree.specs.Bits.{has_bit}
use Rattle.rcv_guided.specs.Counts.{with_counts}
use Rattle.rcv_guided.proofs.taken.keeping.Given as goal

abbrev pub invariant-loop-role : goal.invariant-loop-role
invariant-loop-role l = l.kept.items ≡ with_counts (slice_index l.counts) (filter (has_bit l.set.0) (range_with_len 0 l.role))
