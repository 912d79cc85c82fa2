-- Point by point.
use Rattle.std.proofs.Common.{◌+◌, ◌∙◌, refl, ap, arith}
use Rattle.rcv_points.specs.Follow.{net_in}
use Rattle.rcv_points.proofs.Finding.{no_flag_is_up}
use Rattle.rcv_points.proofs.Meeting.{none_yet, none_more, first_next, no_next}
use Rattle.rcv_points.proofs.met.next_start.Goals as goal

pub loop-before-init : goal.loop-before-init
loop-before-init c = (omega arith, none_yet (net_in c.args.points.now) c.args.role c.args.place)

pub returns-then-is_next_lane : goal.returns-then-is_next_lane
returns-then-is_next_lane c =
    let net = net_in c.args.points.now in
    c.as_slice.ensures ∙ c.lane_start.ensures ∙ ap net.begins (c.lane_of.ensures ∙ ap net.lane c.point.view_is)
    ∙ first_next net 8 c.args.role c.args.place c.loop-before.before (c.loop-before.before + 1) c.count-before-end.ensures.within.proper c.requires refl c.loop-before.invariant.0 (omega (arith, c.loop-before-test.true, c.count-before-end.ensures.value)) (c.if-is_next_lane.ensures.0 refl) c.loop-before.invariant.1

pub loop-before-preserved : goal.loop-before-preserved
loop-before-preserved c = (
  (let le = c.loop-before.invariant.0 in omega (arith, le)),
  none_more (net_in c.args.points.now) c.args.role c.args.place c.loop-before.before (c.loop-before.before + 1) refl (λ w. no_flag_is_up (c.if-is_next_lane.ensures.1 w)) c.loop-before.invariant.1,
)

pub returns : goal.returns
returns c = no_next (net_in c.args.points.now) 8 c.args.role c.args.place c.loop-before.before c.count-before-end.ensures.within.proper c.requires (omega (arith, c.loop-before-test.false, c.count-before-end.ensures.value)) c.loop-before.invariant.1
