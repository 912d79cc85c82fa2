-- One point more.
use Rattle.std.proofs.Common.{◌+◌, arith}
use Rattle.rcv_points.specs.Follow.{net_in}
use Rattle.rcv_listing.specs.Lines.{point_text}
use Rattle.rcv_listing.proofs.Lines.{goes_on}
use Rattle.rcv_listing.proofs.table.Table.write_all.Goals as goal

pub loop-before-preserved : goal.loop-before-preserved
loop-before-preserved c = goes_on (point_text c.args.self.now.roles.now (net_in c.args.self.now.points.now) c.args.self.now.lines.now) 1 c.loop-before.before (c.loop-before.before + 1) c.args.text.now c.loop-before.text c.write_point.new.text (omega arith) c.loop-before.invariant c.in_ok-write_point.ensures
