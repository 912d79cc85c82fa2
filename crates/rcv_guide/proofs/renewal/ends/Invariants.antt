use Rattle.std.proofs.Common.{◌≡◌, ◌+◌, ◌<◌, ℕ, length}
use Rattle.std.specs.Prelude.{slice_index}
use Rattle.rcv_guide.specs.Numbers.{numbers_at}
use Rattle.rcv_guide.proofs.renewal.ends.Given as goal

abbrev pub invariant-loop-role : goal.invariant-loop-role
invariant-loop-role l =
    record {
      eight : length l.ends ≡ 8;
      done : (r : ℕ) → r < l.role → slice_index l.ends r ≡ (numbers_at l.numbers r).seeds + slice_index l.counts r;
    }
