use Rattle.std.proofs.Common.{ap, arith}
use Rattle.rcv_points.proofs.Whole.{same_net}
use Rattle.rcv_accept.proofs.Faults.{ends_none, ends_next, ends_all}
use Rattle.rcv_accept.proofs.lane_end.first_unending.Goals as goal

pub returns : goal.returns
returns c body roles are =
    let same = ap (λ net. net.count) (same_net body roles c.args.points.now are.form are.all) in
    ends_all body roles are.form c.loop-place.place c.loop-place.first (omega (arith, same, c.loop-place-test.false, c.count-place-end.ensures.value)) (c.loop-place.invariant body roles are)

pub loop-place-init : goal.loop-place-init
loop-place-init c body roles are = ends_none body roles are.form

pub loop-place-preserved : goal.loop-place-preserved
loop-place-preserved c body roles are = ends_next body roles are.form c.loop-place.place c.loop-place.first c.unending.result c.earlier-first.result (c.loop-place.invariant body roles are) (c.unending.ensures body roles are) c.earlier-first.ensures
