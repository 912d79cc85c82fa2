use Rattle.rcv_session.specs.Session.{rules_of}
use Rattle.rcv_cells.specs.Making.{AreOpenTo}
use Rattle.rcv_cells.proofs.opening.add_role.Given as goal

abbrev pub invariant-loop-other : goal.invariant-loop-other
invariant-loop-other l = AreOpenTo (rules_of l.fn.setup) l.role l.other l.all.items l.mine
