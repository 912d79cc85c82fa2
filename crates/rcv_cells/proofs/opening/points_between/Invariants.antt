use Rattle.rcv_session.specs.Session.{net_for}
use Rattle.rcv_cells.specs.Making.{ArePointsBetween}
use Rattle.rcv_cells.proofs.opening.points_between.Given as goal

abbrev pub invariant-loop-number : goal.invariant-loop-number
invariant-loop-number l = ArePointsBetween (net_for l.fn.setup) l.from l.to l.number l.points.items
