use Rattle.rcv_rollback.specs.Going.{AreGone, HaveMoved}
use Rattle.rcv_rollback.proofs.settling.settle_all.Given as goal

abbrev pub invariant-loop-role : goal.invariant-loop-role
invariant-loop-role l = AreGone l.fn.book l.role l.half.items × HaveMoved l.initial.half.items l.half.items
