-- No place and no lane has the fork, so the role meets none.
use Rattle.rcv_listing.proofs.Forking.{fork_or_none}
use Rattle.rcv_listing.proofs.way.choice_in_way.Goals as goal

pub returns-in-None-clause-way : goal.returns-in-None-clause-way
returns-in-None-clause-way c = fork_or_none c.args.points.now c.args.role c.args.place c.fork_at_lanes.result c.count.ensures.within.all c.in-None.ensures.fork c.fork_at_lanes.ensures.fork
