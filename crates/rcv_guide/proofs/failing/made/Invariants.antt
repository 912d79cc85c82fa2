use Rattle.std.proofs.Common.{◌≡◌, ◌+◌, ◌-◌, ◌<◌, ◌≤◌, ℕ, length}
use Rattle.std.specs.Prelude.{slice_index}
use Rattle.rcv_guide.specs.Numbers.{numbers_at}
use Rattle.rcv_guide.proofs.failing.made.Given as goal

abbrev pub invariant-loop-role : goal.invariant-loop-role
invariant-loop-role l =
    record {
      eight : length l.made ≡ 8;
      done : (r : ℕ) → r < l.role → slice_index l.made r ≡ (numbers_at l.numbers r).forgotten + (slice_index l.counts r - (numbers_at l.numbers r).seeds);
      rest : (r : ℕ) → l.role ≤ r → slice_index l.made r ≡ 0;
    }
