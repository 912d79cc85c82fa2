-- A choice stands in the way.
use Rattle.std.proofs.Common.{arith}
use Rattle.rcv_points.specs.Follow.{net_in}
use Rattle.rcv_listing.proofs.Forking.{way_told}
use Rattle.rcv_listing.proofs.told.write_way.Goals as goal

pub returns-in_ok-write_choice-in-Some : goal.returns-in_ok-write_choice-in-Some
returns-in_ok-write_choice-in-Some c = way_told c.args.table.now.roles.now (net_in c.args.table.now.points.now) c.args.table.now.lines.now
    c.args.code c.args.role c.args.number c.in-Some.point c.args.text.now c.write_choice.new.text (omega arith) c.in-Some.ensures.way c.in_ok-write_choice-in-Some.ensures
