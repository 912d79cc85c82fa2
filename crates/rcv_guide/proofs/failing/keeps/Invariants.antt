use Rattle.std.proofs.Common.{◌≡◌, ◌<◌, ℕ, true, length}
use Rattle.std.specs.Prelude.{slice_index}
use Rattle.rcv_tree.specs.Bits.{has_bit}
use Rattle.rcv_guide.specs.Failing.{logged_of}
use Rattle.rcv_guide.proofs.failing.keeps.Given as goal

abbrev pub invariant-loop-role : goal.invariant-loop-role
invariant-loop-role l =
    record {
      eight : length l.keep ≡ 8;
      done : (r : ℕ) → r < l.role → has_bit l.group.0 r ≡ true → slice_index l.keep r ≡ logged_of l.numbers l.ledger.logs l.saved r;
    }
