-- One more.
use Rattle.std.proofs.Common.{◌+◌, arith}
use Rattle.rcv_points.specs.Follow.{net_in}
use Rattle.rcv_charts.specs.Titles.{titles_in}
use Rattle.rcv_charts.specs.RowTitles.{start_titles}
use Rattle.rcv_charts.proofs.Ranges.{goes_on}
use Rattle.rcv_charts.proofs.rows.draw_starts.Goals as goal

pub loop-before-preserved : goal.loop-before-preserved
loop-before-preserved c = goes_on (start_titles (net_in c.args.points.now) c.args.accepted.now.protocol.roles c.args.table.now c.args.role) 1 c.loop-before.before (c.loop-before.before + 1) (titles_in c.args.drawing.now.groups) (titles_in c.loop-before.drawing.groups) (titles_in c.draw_start.new.drawing.groups) (omega arith) c.loop-before.invariant c.in_ok-draw_start.ensures
