-- An event's point is one that a set can hold.
use Rattle.rcv_role.proofs.Parts.{event_point, low}
use Rattle.rcv_role.proofs.part.Part.first_lost.Goals as goal

pub returns-clause-point : goal.returns-clause-point
returns-clause-point c = event_point _ c.args.self.now c.self.inside.tail _ c.point_at.result c.self.view_is c.self.invariant.0 c.point_at.ensures

pub returns-clause-role : goal.returns-clause-role
returns-clause-role c = low _ c.args.self.now c.self.inside.tail c.self.view_is c.self.invariant.0
