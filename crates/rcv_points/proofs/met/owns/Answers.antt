-- Point by point.
use Rattle.std.proofs.Common.{◌+◌, sym, refl, subst, arith}
use Rattle.rcv_points.specs.Follow.{net_in}
use Rattle.rcv_points.specs.Met.{HasOwn}
use Rattle.rcv_points.proofs.Finding.{no_flag_is_up}
use Rattle.rcv_points.proofs.Meeting.{own_none, own_more, own_all}
use Rattle.rcv_points.proofs.met.owns.Goals as goal

pub loop-before-init : goal.loop-before-init
loop-before-init c = own_none (net_in c.args.points.now) c.args.role c.lane_of-lane.result

pub loop-before-preserved : goal.loop-before-preserved
loop-before-preserved c = own_more (net_in c.args.points.now) c.args.role c.lane_of-lane.result c.loop-before.before (c.loop-before.before + 1) refl (λ a. no_flag_is_up (c.if-is_own_in.ensures.1 a)) c.loop-before.invariant

pub returns : goal.returns
returns c low = (λ t. absurd (no_flag_is_up t), λ h. absurd (own_all (net_in c.args.points.now) c.args.role c.lane_of-lane.result c.loop-before.before (omega (arith, c.loop-before-test.false, c.count-before-end.ensures.value)) c.loop-before.invariant (subst (HasOwn (net_in c.args.points.now) c.args.role) (sym c.lane_of-lane.ensures) h)))
