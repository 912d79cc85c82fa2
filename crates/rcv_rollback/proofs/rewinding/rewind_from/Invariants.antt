use Rattle.rcv_rollback.specs.Going.{AreGoing, HaveMoved}
use Rattle.rcv_rollback.proofs.rewinding.rewind_from.Given as goal

abbrev pub invariant-loop-to : goal.invariant-loop-to
invariant-loop-to l = AreGoing l.fn.book l.from l.to l.half.items × HaveMoved l.initial.half.items l.half.items
