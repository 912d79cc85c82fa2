-- Those of the roles so far.
use Rattle.std.proofs.Common.{◌≡◌, ℕ, ◌+◌, ◌<◌, length}
use Rattle.std.specs.Prelude.{slice_index}
use Rattle.rcv_guided.specs.Session.{forgotten_of}
use Rattle.rcv_guided.proofs.session.GuidedSession.stable.Given as goal

abbrev pub invariant-loop-role : goal.invariant-loop-role
invariant-loop-role l = record {
  eight : length l.stable ≡ 8;
  each : (r : ℕ) → r < l.role → slice_index l.stable r ≡ forgotten_of l.self r + slice_index l.line r;
}
