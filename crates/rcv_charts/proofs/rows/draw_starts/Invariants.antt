use Rattle.std.proofs.Common.{◌≡◌, ◌++◌, flat_map}
use Rattle.std.specs.List.{range_with_len}
use Rattle.rcv_points.specs.Follow.{net_in}
use Rattle.rcv_charts.specs.Titles.{titles_in}
use Rattle.rcv_charts.specs.RowTitles.{start_titles}
use Rattle.rcv_charts.proofs.rows.draw_starts.Given as goal

abbrev pub invariant-loop-before : goal.invariant-loop-before
invariant-loop-before l = titles_in l.drawing.groups ≡ titles_in l.initial.drawing.groups ++ flat_map (start_titles (net_in l.points) l.accepted.protocol.roles l.table l.role) (range_with_len 1 l.before)
