use Rattle.std.proofs.Common.{◌≡◌, ◌++◌, flat_map}
use Rattle.std.specs.List.{range_with_len}
use Rattle.rcv_points.specs.Follow.{net_in}
use Rattle.rcv_charts.specs.Titles.{titles_in}
use Rattle.rcv_charts.specs.RowTitles.{role_titles}
use Rattle.rcv_charts.proofs.rows.draw_rows.Given as goal

abbrev pub invariant-loop-number : goal.invariant-loop-number
invariant-loop-number l = titles_in l.drawing.groups ≡ titles_in l.initial.drawing.groups ++ flat_map (role_titles (net_in l.points) l.accepted.protocol.roles l.table) (range_with_len 0 l.number)
