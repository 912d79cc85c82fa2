-- In the last stage the lane's start beside the others.
use Rattle.std.proofs.Common.{sym, ◌∙◌}
use Rattle.rcv_points.specs.Follow.{net_in}
use Rattle.rcv_tables.proofs.Lined.{from_last}
use Rattle.rcv_tables.proofs.line.from_lane.Goals as goal

pub returns-then-in_last_stage : goal.returns-then-in_last_stage
returns-then-in_last_stage c lanes others = from_last (net_in c.args.points.now) c.args.lane lanes c.as_set.result.0 c.args.behind.0 (sym c.lane_start-start.ensures ∙ c.as_set.ensures) others c.union.result.0 (sym c.in_last_stage.ensures ∙ c.if-in_last_stage.true) c.union.ensures.all
