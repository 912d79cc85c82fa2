-- The saves of the roles so far are cut.
use Rattle.std.proofs.Common.{◌≡◌, ℕ, ◌<◌, ◌≤◌, length}
use Rattle.std.specs.Prelude.{slice_index}
use Rattle.rcv_saves.specs.Counts.{up_to}
use Rattle.rcv_saves.specs.Saves.{told_of}
use Rattle.rcv_guided.proofs.back.cut.Given as goal

abbrev pub invariant-loop-role : goal.invariant-loop-role
invariant-loop-role l = record {
  steps : l.saves.steps ≡ l.initial.saves.steps;
  all : length l.saves.told ≡ length l.initial.saves.told;
  done : (r : ℕ) → r < l.role → told_of l.saves r ≡ up_to (slice_index l.kept r) (told_of l.initial.saves r);
  left : (r : ℕ) → l.role ≤ r → told_of l.saves r ≡ told_of l.initial.saves r;
}
