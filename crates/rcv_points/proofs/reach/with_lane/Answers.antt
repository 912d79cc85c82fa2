-- The lane is shut, isn't reached, or is searched.
use Rattle.std.proofs.Common.{◌≡◌, ◌<◌, ◌≤◌, ◌+◌, ◌⊎◌, true, length, refl, ap, subst, sym, ◌∙◌, ⊎_elim, arith}
use Rattle.rcv_tree.specs.Bits.{members}
use Rattle.rcv_model.specs.Net.{IsIn}
use Rattle.rcv_points.specs.Follow.{net_in}
use Rattle.rcv_points.specs.Ahead.{IsLaneReach}
use Rattle.rcv_points.specs.LaneSearch.{ReachedSoFar}
use Rattle.rcv_points.proofs.Finding.{no_flag_is_up}
use Rattle.rcv_points.proofs.Gathering.{in_both}
use Rattle.rcv_points.proofs.Stages.{lane_open, lane_beside, lane_skipped}
use Rattle.rcv_points.proofs.Within.{are_lanes}
use Rattle.rcv_points.proofs.reach.with_lane.Goals as goal

pub returns-then-stage-stage_of : goal.returns-then-stage-stage_of
returns-then-stage-stage_of c =
    let net = net_in c.args.points.now in
    lane_skipped net 8 c.args.role c.args.place (length c.args.points.now.lanes) c.lanes.ensures.within.proper (are_lanes c.args.points.now c.lanes.ensures.within) c.args.lane (members c.args.so_far.reach.come.0) c.args.so_far.reach.ends c.args.so_far.last_stage c.requires.behind c.requires.text
    (λ later o. omega (arith, later, c.if-stage-stage_of.true, c.stage_of-stage.ensures, c.stage_of.ensures, ap net.stage c.lane_of.ensures))
    c.requires.so_far

pub returns-then-not-is_open : goal.returns-then-not-is_open
returns-then-not-is_open c =
    let net = net_in c.args.points.now in
    lane_skipped net 8 c.args.role c.args.place (length c.args.points.now.lanes) c.lanes.ensures.within.proper (are_lanes c.args.points.now c.lanes.ensures.within) c.args.lane (members c.args.so_far.reach.come.0) c.args.so_far.reach.ends c.args.so_far.last_stage c.requires.behind c.requires.text
    (λ later o. no_flag_is_up (c.if-not-is_open.ensures.1 (subst (λ s. (c.args.so_far.reach.ends ≡ true) ⊎ (s ≤ c.args.so_far.last_stage)) (sym c.stage_of-stage.ensures) o)))
    c.requires.so_far

pub lane_reach-next-requires-clause-text : goal.lane_reach-next-requires-clause-text
lane_reach-next-requires-clause-text c = λ p i. c.lanes.ensures.within.proper.begun_in_text c.args.lane p (subst (IsIn p) c.lane_start.ensures i)

pub returns-then-so_far : goal.returns-then-so_far
returns-then-so_far c =
    let net = net_in c.args.points.now in
    let later : net.stage (net.lane c.args.place) < net.stage c.args.lane = omega (arith, c.if-stage-stage_of.false, c.stage_of-stage.ensures, c.stage_of.ensures, ap net.stage c.lane_of.ensures) in
    subst (λ last. ReachedSoFar net c.args.role c.args.place (c.args.lane + 1) (members c.union-come.result.0) c.lane_reach-next.result.ends last) (sym c.stage_of-stage.ensures)
    (lane_open net 8 c.args.role c.args.place (length c.args.points.now.lanes) c.lanes.ensures.within.proper (are_lanes c.args.points.now c.lanes.ensures.within) c.args.lane (members c.args.so_far.reach.come.0) (members c.lane_reach-next.result.come.0) (members c.union-come.result.0) c.args.so_far.reach.ends c.lane_reach-next.result.ends c.args.so_far.last_stage c.requires.behind c.requires.text later
    (subst (λ ps. IsLaneReach net c.args.role ps (members c.lane_reach-next.result.come.0) c.lane_reach-next.result.ends) c.lane_start.ensures c.lane_reach-next.ensures)
    (in_both c.args.so_far.reach.come.0 c.lane_reach-next.result.come.0 c.union-come.result.0 c.union-come.ensures.all) c.requires.so_far c.if-so_far.true)

pub returns-else-so_far : goal.returns-else-so_far
returns-else-so_far c =
    let net = net_in c.args.points.now in
    let later : net.stage (net.lane c.args.place) < net.stage c.args.lane = omega (arith, c.if-stage-stage_of.false, c.stage_of-stage.ensures, c.stage_of.ensures, ap net.stage c.lane_of.ensures) in
    lane_beside net 8 c.args.role c.args.place (length c.args.points.now.lanes) c.lanes.ensures.within.proper (are_lanes c.args.points.now c.lanes.ensures.within) c.args.lane (members c.args.so_far.reach.come.0) (members c.lane_reach-next.result.come.0) (members c.union-come.result.0) c.args.so_far.reach.ends c.lane_reach-next.result.ends c.args.so_far.last_stage c.requires.behind c.requires.text later
    (subst (λ ps. IsLaneReach net c.args.role ps (members c.lane_reach-next.result.come.0) c.lane_reach-next.result.ends) c.lane_start.ensures c.lane_reach-next.ensures)
    (in_both c.args.so_far.reach.come.0 c.lane_reach-next.result.come.0 c.union-come.result.0 c.union-come.ensures.all) c.requires.so_far c.if-so_far.false
    (⊎_elim (λ t. absurd (no_flag_is_up (sym c.if-so_far.false ∙ t))) (λ le. omega (arith, le, c.stage_of-stage.ensures)) (c.if-not-is_open.ensures.0 refl))
