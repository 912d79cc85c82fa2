use Rattle.rcv_cells.specs.Home.{AllMet}
use Rattle.rcv_cells.proofs.Meeting.{HaveBegunTo}
use Rattle.rcv_cells.proofs.meet.meet_from.Given as goal

abbrev pub invariant-loop-to : goal.invariant-loop-to
invariant-loop-to l = AllMet l.initial.lanes l.lanes × HaveBegunTo l.initial.lanes l.from l.to
