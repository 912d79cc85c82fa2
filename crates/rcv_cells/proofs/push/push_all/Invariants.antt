use Rattle.rcv_cells.proofs.Ahead.{HavePushed}
use Rattle.rcv_cells.proofs.push.push_all.Given as goal

abbrev pub invariant-loop-entry : goal.invariant-loop-entry
invariant-loop-entry l = HavePushed l.initial.book l.entries l.lanes l.book l.entry-index
