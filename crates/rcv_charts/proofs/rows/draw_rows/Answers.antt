-- One more.
use Rattle.std.proofs.Common.{arith}
use Rattle.rcv_points.specs.Follow.{net_in}
use Rattle.rcv_charts.specs.Titles.{titles_in}
use Rattle.rcv_charts.specs.RowTitles.{role_titles}
use Rattle.rcv_charts.proofs.Ranges.{goes_on}
use Rattle.rcv_charts.proofs.rows.draw_rows.Goals as goal

pub loop-number-preserved : goal.loop-number-preserved
loop-number-preserved c = goes_on (role_titles (net_in c.args.points.now) c.args.accepted.now.protocol.roles c.args.table.now) 0 c.loop-number.number c.loop-number.number (titles_in c.args.drawing.now.groups) (titles_in c.loop-number.drawing.groups) (titles_in c.draw_role.new.drawing.groups) (omega arith) c.loop-number.invariant c.in_ok-draw_role.ensures
