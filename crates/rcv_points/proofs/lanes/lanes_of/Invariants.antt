use Rattle.std.proofs.Common.{map}
use Rattle.rcv_points.specs.Lanes.{lane_text}
use Rattle.rcv_points.proofs.TextLanes.{ListedSoFar}
use Rattle.rcv_points.proofs.lanes.lanes_of.Given as goal

abbrev pub invariant-loop-index : goal.invariant-loop-index
invariant-loop-index l = ListedSoFar l.stmts l.index l.from l.stage (map lane_text l.lanes.items)
