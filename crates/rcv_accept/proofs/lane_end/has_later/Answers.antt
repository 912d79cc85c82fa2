-- Points stand in the order of their stages.
use Rattle.std.proofs.Common.{◌∙◌, ap}
use Rattle.rcv_points.specs.Follow.{net_in}
use Rattle.rcv_accept.proofs.LaneEnds.{later_by_last}
use Rattle.rcv_accept.proofs.lane_end.has_later.Goals as goal

pub returns : goal.returns
returns c =
    let net = net_in c.args.points.now in
    later_by_last net 8 c.args.point c.stage_of-stage.result c.stage_of.result c.lanes.ensures.within.proper c.requires
    (c.stage_of-stage.ensures ∙ ap net.stage (c.lane_of.ensures ∙ ap net.lane c.point.view_is))
    (c.stage_of.ensures ∙ ap net.stage (c.lane_of-2.ensures ∙ ap net.lane c.count.ensures.value))
