use Rattle.rcv_rollback.specs.Going.{AreGoing, HaveMoved}
use Rattle.rcv_rollback.proofs.rewinding.rewind_all.Given as goal

abbrev pub invariant-loop-from : goal.invariant-loop-from
invariant-loop-from l = AreGoing l.fn.book l.from 0 l.half.items × HaveMoved l.initial.half.items l.half.items
