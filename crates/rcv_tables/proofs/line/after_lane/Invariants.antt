use Rattle.std.proofs.Common.{◌≡◌, ◌+◌, ◌-◌}
use Rattle.std.specs.List.{range_with_len}
use Rattle.rcv_tree.specs.Bits.{members}
use Rattle.rcv_points.specs.Follow.{net_in}
use Rattle.rcv_tables.specs.Line.{offered_from}
use Rattle.rcv_tables.proofs.line.after_lane.Given as goal

abbrev pub invariant-loop-back : goal.invariant-loop-back
invariant-loop-back l = members l.offered.0 ≡ offered_from (net_in l.points) (range_with_len (l.last - l.back + 1) l.back)
