use Rattle.std.proofs.Common.{◌≡◌, ◌+◌, ◌-◌, ◌++◌, ◌≤◌}
use Rattle.rcv_tree.specs.Bits.{members, members_from}
use Rattle.rcv_tree.proofs.point.PointSet.list.Given as goal

abbrev pub invariant-loop-before : goal.invariant-loop-before
invariant-loop-before l = (l.before ≤ 256) × (l.points.items ++ members_from l.self.0 (256 - l.before) (l.before + 1) ≡ members l.self.0)

abbrev pub decreases-loop-before : goal.decreases-loop-before
decreases-loop-before l = 256 - l.before
