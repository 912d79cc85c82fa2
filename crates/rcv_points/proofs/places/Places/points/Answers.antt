use Rattle.rcv_points.proofs.Marking.{is_found}
use Rattle.rcv_points.proofs.places.Places.points.Goals as goal

pub returns : goal.returns
returns c = is_found c.self.inside.flags c.self.inside.items c.self.inside.count c.self.inside.points.0 c.args.self.now c.self.invariant c.self.view_is
