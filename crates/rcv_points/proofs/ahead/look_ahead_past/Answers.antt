-- The role's own points of those that can come are its next ones.
use Rattle.rcv_points.specs.Follow.{net_in}
use Rattle.rcv_points.proofs.Gathering.{next_of}
use Rattle.rcv_points.proofs.ahead.look_ahead_past.Goals as goal

pub returns : goal.returns
returns c = record {
  next = next_of (net_in c.args.points.now) 8 c.args.role c.args.place c.reach_from-ahead.result.come.0 c.args.own.0 c.intersection.result.0 c.in_ok-next.next.items c.count.ensures.within.proper c.reach_from-ahead.ensures.all c.requires.own c.intersection.ensures c.in_ok-next.ensures;
  ends = c.reach_from-ahead.ensures.end;
}
