use Rattle.rcv_tree.proofs.Meets.{point_of_first}
use Rattle.rcv_tree.proofs.point.PointSet.difference.Goals as goal

pub returns : goal.returns
returns c p point = point_of_first c.args.self.0 c.args.other.0 c.intersection-both.result.0 p point (c.intersection-both.ensures p point)
