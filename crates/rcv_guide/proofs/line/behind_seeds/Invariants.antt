use Rattle.std.proofs.Common.{◌≡◌, ◌-◌, ◌<◌, ◌≤◌, ℕ, length}
use Rattle.std.specs.Prelude.{slice_index}
use Rattle.rcv_guide.specs.Numbers.{numbers_at}
use Rattle.rcv_guide.proofs.line.behind_seeds.Given as goal

abbrev pub invariant-loop-role : goal.invariant-loop-role
invariant-loop-role l =
    record {
      eight : length l.behind ≡ 8;
      done : (r : ℕ) → r < l.role → slice_index l.behind r ≡ slice_index l.counts r - (numbers_at l.numbers r).seeds;
      rest : (r : ℕ) → l.role ≤ r → slice_index l.behind r ≡ 0;
    }
