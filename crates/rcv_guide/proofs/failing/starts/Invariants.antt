use Rattle.std.proofs.Common.{◌≡◌, ◌<◌, ℕ, length}
use Rattle.std.specs.Prelude.{slice_index}
use Rattle.rcv_guide.specs.Failing.{first_lost}
use Rattle.rcv_guide.proofs.failing.starts.Given as goal

abbrev pub invariant-loop-role : goal.invariant-loop-role
invariant-loop-role l =
    record {
      eight : length l.starts ≡ 8;
      done : (r : ℕ) → r < l.role → slice_index l.starts r ≡ first_lost l.ledger.logs l.keeps r;
    }
