-- Each of the points stands in the text.
use Rattle.rcv_accept.proofs.Lists.{item_in}
use Rattle.rcv_listing.proofs.table.Table.write_points.Goals as goal

pub write_point-requires-clause-first : goal.write_point-requires-clause-first
write_point-requires-clause-first c = (c.requires c.point-item.result (item_in c.args.points.now c.loop-point.point-index c.point-item.result c.loop-point-test.true c.point-item.is)).0

pub write_point-requires-clause-last : goal.write_point-requires-clause-last
write_point-requires-clause-last c = (c.requires c.point-item.result (item_in c.args.points.now c.loop-point.point-index c.point-item.result c.loop-point-test.true c.point-item.is)).1
