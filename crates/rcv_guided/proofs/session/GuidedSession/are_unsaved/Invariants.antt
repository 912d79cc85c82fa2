-- The roles so far have no saves.
use Rattle.std.proofs.Common.{ℕ, ◌<◌}
use Rattle.rcv_guided.specs.Restoring.{IsUnsaved}
use Rattle.rcv_guided.proofs.session.GuidedSession.are_unsaved.Given as goal

abbrev pub invariant-loop-role : goal.invariant-loop-role
invariant-loop-role l = (r : ℕ) → r < l.role → IsUnsaved l.self r
