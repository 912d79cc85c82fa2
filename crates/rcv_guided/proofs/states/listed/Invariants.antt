use Rattle.std.proofs.Common.{◌≡◌, length, take}
use Rattle.std.specs.Prelude.{slice_index}
use Rattle.std.specs.List.{range_with_len}
use Rattle.rcv_guided.specs.Counts.{with_counts}
use Rattle.rcv_guided.proofs.states.listed.Given as goal

abbrev pub invariant-loop-role : goal.invariant-loop-role
invariant-loop-role l =
    record {
      eight : length l.all ≡ 8;
      done : take l.role l.all ≡ with_counts (slice_index l.counts) (range_with_len 0 l.role);
    }
