-- Lane by lane.
use Rattle.std.proofs.Common.{◌+◌, sym, ◌∙◌, ap, subst, length, arith}
use Rattle.rcv_tree.specs.Bits.{members}
use Rattle.rcv_model.specs.Net.{IsIn}
use Rattle.rcv_points.specs.Follow.{net_in}
use Rattle.rcv_points.specs.Ahead.{IsLaneReach}
use Rattle.rcv_points.specs.LaneSearch.{ReachedSoFar}
use Rattle.rcv_points.proofs.Stages.{own_reached, all_reached}
use Rattle.rcv_points.proofs.Within.{are_lanes}
use Rattle.rcv_points.proofs.reach.reach_from.Goals as goal

pub lane_reach-requires-clause-text : goal.lane_reach-requires-clause-text
lane_reach-requires-clause-text c = λ p i. c.lanes.ensures.within.proper.in_text c.args.place p (subst (IsIn p) c.place.ensures i)

pub loop-lane-init : goal.loop-lane-init
loop-lane-init c =
    let net = net_in c.args.points.now in
    let own = own_reached net 8 c.args.role c.args.place (length c.args.points.now.lanes) c.lanes.ensures.within.proper (are_lanes c.args.points.now c.lanes.ensures.within) (members c.lane_reach.result.come.0) c.lane_reach.result.ends
    (subst (λ ps. IsLaneReach net c.args.role ps (members c.lane_reach.result.come.0) c.lane_reach.result.ends) c.place.ensures c.lane_reach.ensures) in (
      omega arith,
      subst (λ last. ReachedSoFar net c.args.role c.args.place (c.lane_of-own_lane.result + 1) (members c.lane_reach.result.come.0) c.lane_reach.result.ends last) (sym (c.stage_of.ensures ∙ ap net.stage c.lane_of-own_lane.ensures))
          (subst (λ lane. ReachedSoFar net c.args.role c.args.place (lane + 1) (members c.lane_reach.result.come.0) c.lane_reach.result.ends (net.stage (net.lane c.args.place))) (sym c.lane_of-own_lane.ensures) own),
    )

pub with_lane-so_far-requires-clause-behind : goal.with_lane-so_far-requires-clause-behind
with_lane-so_far-requires-clause-behind c = let lt = c.loop-lane.invariant.0 in omega (arith, lt, c.lane_of-own_lane.ensures)

pub loop-lane-preserved : goal.loop-lane-preserved
loop-lane-preserved c = ((let lt = c.loop-lane.invariant.0 in omega (arith, lt)), c.with_lane-so_far.ensures)

pub returns : goal.returns
returns c =
    all_reached (net_in c.args.points.now) 8 c.args.role c.args.place (length c.args.points.now.lanes) c.lanes.ensures.within.proper (are_lanes c.args.points.now c.lanes.ensures.within) c.loop-lane.lane (members c.loop-lane.so_far.reach.come.0) c.loop-lane.so_far.reach.ends c.loop-lane.so_far.last_stage
    (omega (arith, c.loop-lane-test.false, c.lanes-lane-end.ensures.value)) c.loop-lane.invariant.1
