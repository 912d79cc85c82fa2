use Rattle.std.proofs.Common.{◌≡◌, ◌++◌, flat_map}
use Rattle.std.specs.List.{range_with_len}
use Rattle.rcv_points.specs.Follow.{net_in}
use Rattle.rcv_listing.specs.Lines.{point_text}
use Rattle.rcv_listing.proofs.table.Table.write_all.Given as goal

abbrev pub invariant-loop-before : goal.invariant-loop-before
invariant-loop-before l = l.text ≡ l.initial.text ++ flat_map (point_text l.self.roles.now (net_in l.self.points.now) l.self.lines.now) (range_with_len 1 l.before)
