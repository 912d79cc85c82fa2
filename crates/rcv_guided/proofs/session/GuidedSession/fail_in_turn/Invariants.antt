-- Some have failed, and the others are left.
use Rattle.std.proofs.Common.{◌*◌, ◌≤◌, drop}
use Rattle.rcv_guided.proofs.InTurn.{Going}
use Rattle.rcv_guided.proofs.session.GuidedSession.fail_in_turn.Given as goal

abbrev pub invariant-loop-one : goal.invariant-loop-one
invariant-loop-one l = record {
  going : Going l.initial.self l.failed (drop l.one-index l.failed) l.gone.0 l.taken l.self;
  few : l.taken.undone ≤ 4294967296 * l.one-index;
}
