use Rattle.std.proofs.Common.{◌≡◌, ℕ, ◌<◌, ◌≤◌}
use Rattle.rcv_saves.specs.Counts.{above}
use Rattle.rcv_saves.specs.Saves.{told_of}
use Rattle.rcv_guide.specs.Numbers.{numbers_at}
use Rattle.rcv_guided.proofs.room.forget_saves.Given as goal

abbrev pub invariant-loop-role : goal.invariant-loop-role
invariant-loop-role l =
    record {
      steps : l.saves.steps ≡ l.fn.saves.steps;
      saved : (r : ℕ) → r < l.role → told_of l.saves r ≡ above (numbers_at l.guide.numbers r).forgotten (told_of l.fn.saves r);
      others : (r : ℕ) → l.role ≤ r → told_of l.saves r ≡ told_of l.fn.saves r;
    }
