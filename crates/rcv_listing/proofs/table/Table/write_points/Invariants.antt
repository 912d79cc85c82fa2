use Rattle.std.proofs.Common.{◌≡◌, ◌++◌, flat_map, take}
use Rattle.rcv_points.specs.Follow.{net_in}
use Rattle.rcv_listing.specs.Lines.{point_text}
use Rattle.rcv_listing.proofs.table.Table.write_points.Given as goal

abbrev pub invariant-loop-point : goal.invariant-loop-point
invariant-loop-point l = l.text ≡ l.initial.text ++ flat_map (point_text l.self.roles.now (net_in l.self.points.now) l.self.lines.now) (take l.point-index l.points)
