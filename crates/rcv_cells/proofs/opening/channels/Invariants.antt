use Rattle.rcv_session.specs.Session.{rules_of}
use Rattle.rcv_cells.specs.Making.{AreOpen}
use Rattle.rcv_cells.proofs.opening.channels.Given as goal

abbrev pub invariant-loop-role : goal.invariant-loop-role
invariant-loop-role l = AreOpen (rules_of l.fn.setup) l.role l.all.items
