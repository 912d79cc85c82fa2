use Rattle.std.proofs.Common.{drop, map, replicate, []}
use Rattle.rcv_tree.specs.Bits.{members}
use Rattle.rcv_points.specs.Filling.{found}
use Rattle.rcv_points.specs.Lanes.{lane_text}
use Rattle.rcv_points.proofs.Whole.{FoundIfFull}
use Rattle.rcv_points.proofs.filling.Whole.of.Given as goal

abbrev pub invariant-loop-number : goal.invariant-loop-number
invariant-loop-number l = FoundIfFull (map lane_text (drop l.number l.texts)) l.number (replicate 8 []) (found l.whole.filling) (members l.start.0) l.whole.lanes.items l.whole.lane_numbers.items
