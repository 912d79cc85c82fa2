-- Those of the roles so far.
use Rattle.std.proofs.Common.{◌≡◌, ℕ, ◌<◌, length}
use Rattle.std.specs.Prelude.{slice_index}
use Rattle.rcv_guided.specs.Failures.{told_count, IsSavedCount}
use Rattle.rcv_guided.proofs.session.GuidedSession.saved.Given as goal

abbrev pub invariant-loop-role : goal.invariant-loop-role
invariant-loop-role l = record {
  eight : length l.saved ≡ 8;
  each : (r : ℕ) → r < l.role → IsSavedCount l.self r (told_count l.failed r) (slice_index l.saved r);
}
