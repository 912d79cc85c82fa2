use Rattle.std.proofs.Common.{◌≡◌, ◌<◌, ℕ, length}
use Rattle.std.specs.Prelude.{slice_index}
use Rattle.rcv_session.specs.Session.{rules_of}
use Rattle.rcv_core.proofs.setup.Setup.everys.Given as goal

abbrev pub invariant-loop-role : goal.invariant-loop-role
invariant-loop-role l =
    record {
      eight : length l.everys ≡ 8;
      done : (r : ℕ) → r < l.role → (slice_index l.everys r ≡ (rules_of l.self).every r) × (0 < slice_index l.everys r);
    }
