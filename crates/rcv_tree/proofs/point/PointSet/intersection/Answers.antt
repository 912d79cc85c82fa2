use Rattle.rcv_tree.proofs.Meets.{point_of_common}
use Rattle.rcv_tree.proofs.point.PointSet.intersection.Goals as goal

pub returns : goal.returns
returns c p point = point_of_common c.args.self.0 c.args.other.0 p point
