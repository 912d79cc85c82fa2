-- The points are those of the protocol.
use Rattle.rcv_session.specs.Session.{net_for}
use Rattle.rcv_scene.proofs.Places.{place_in}
use Rattle.rcv_scene.proofs.cast.is_place_in.Goals as goal

pub returns : goal.returns
returns c = λ yes. place_in c.points.result.now (net_for c.args.setup.now) c.args.role c.args.at c.points.ensures (c.is_place.ensures yes)
