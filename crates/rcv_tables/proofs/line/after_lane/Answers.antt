-- One lane more in turn, from the last one on.
use Rattle.std.proofs.Common.{◌+◌, ◌-◌, sym, ◌∙◌, ap, arith}
use Rattle.std.specs.List.{range_with_len}
use Rattle.rcv_points.specs.Follow.{net_in}
use Rattle.rcv_points.proofs.Members.{none_members}
use Rattle.rcv_tables.proofs.Lined.{after_last, back_one, after_other}
use Rattle.rcv_tables.proofs.line.after_lane.Goals as goal

pub returns-then-in_last_stage : goal.returns-then-in_last_stage
returns-then-in_last_stage c = after_last (net_in c.args.points.now) c.args.lane c.none.result.0 (sym c.in_last_stage.ensures ∙ c.if-in_last_stage.true) c.none.ensures

pub loop-back-init : goal.loop-back-init
loop-back-init c = none_members c.none-offered.result.0 c.none-offered.ensures

pub loop-back-preserved : goal.loop-back-preserved
loop-back-preserved c =
    let lt = c.loop-back-test.true in
    let end = c.saturating_sub-back-end.ensures in
    back_one (net_in c.args.points.now) c.lane_of-last.result c.loop-back.back c.from_lane-offered.result.0 (omega (arith, lt, end)) (c.from_lane-offered.ensures (range_with_len (c.lane_of-last.result - c.loop-back.back + 1) c.loop-back.back) c.loop-back.invariant)

pub returns : goal.returns
returns c =
    let ge = c.loop-back-test.false in
    let le = c.loop-back.auto.back-end in
    let end = c.saturating_sub-back-end.ensures in
    after_other (net_in c.args.points.now) c.args.lane c.lane_of-last.result c.loop-back.back c.loop-back.offered.0 (sym c.in_last_stage.ensures ∙ c.if-in_last_stage.false) (c.lane_of-last.ensures ∙ ap (net_in c.args.points.now).lane c.count.ensures.value) (omega (arith, ge, le, end)) c.loop-back.invariant
