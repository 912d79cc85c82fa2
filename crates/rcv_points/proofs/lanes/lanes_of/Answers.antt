-- Statement by statement.
use Rattle.std.proofs.Common.{◌+◌, ◌≤◌, length, map, Vec, Global, sym, ◌∙◌, ap, subst, arith}
use Rattle.std.proofs.lemmas.List.{map-append}
use Rattle.rcv_model.specs.Text.{body_from}
use Rattle.rcv_model.specs.Places.{lanes_of}
use Rattle.rcv_model.proofs.Text.{body_of_lem}
use Rattle.rcv_points.specs.declared.lanes.LaneText.{LaneText}
use Rattle.rcv_points.specs.Lanes.{lane_text}
use Rattle.rcv_points.proofs.TextLanes.{ListedSoFar, nothing_listed, small_stage, run_goes_on, par_listed, all_listed}
use Rattle.rcv_points.proofs.lanes.lanes_of.Goals.{in-Some+in_ok-push+in_ok-add_blocks, in_default}
use Rattle.rcv_points.proofs.lanes.lanes_of.Goals as goal

pub loop-index-init : goal.loop-index-init
loop-index-init c = subst (λ l. ListedSoFar c.as_slice-stmts.result.now 0 0 0 (map lane_text l)) (sym c.new-lanes.ensures.items) (nothing_listed c.as_slice-stmts.result.now)

pub overflow_add-stage : goal.overflow_add-stage
overflow_add-stage c =
    let few = subst (λ b. length (lanes_of b) ≤ 513) (body_of_lem c.args.body.now ∙ ap (λ l. body_from l) (sym c.as_slice-stmts.ensures)) c.requires in
    let small = small_stage c.as_slice-stmts.result.now c.loop-index.index c.loop-index.from c.loop-index.stage (map lane_text c.loop-index.lanes.items) few c.loop-index.invariant in
    omega (arith, small)

pub overflow_add-stage-in-Some : goal.overflow_add-stage-in-Some
overflow_add-stage-in-Some c =
    let few = subst (λ b. length (lanes_of b) ≤ 513) (body_of_lem c.args.body.now ∙ ap (λ l. body_from l) (sym c.as_slice-stmts.ensures)) c.requires in
    let small = small_stage c.as_slice-stmts.result.now c.loop-index.index c.loop-index.from c.loop-index.stage (map lane_text c.loop-index.lanes.items) few c.loop-index.invariant in
    omega (arith, small)

pub loop-index-preserved : goal.loop-index-preserved
loop-index-preserved c =
    let stmts = c.as_slice-stmts.result.now in
    elim c.match-blocks_of.branch [
      | in-Some+in_ok-push+in_ok-add_blocks w ↦
          subst (λ n. ListedSoFar stmts (c.loop-index.index + 1) n c.match-blocks_of.stage (map lane_text c.match-blocks_of.lanes.items)) (sym w.from-is)
          (subst (λ n. ListedSoFar stmts (c.loop-index.index + 1) (c.loop-index.index + 1) n (map lane_text c.match-blocks_of.lanes.items)) (sym w.stage-is)
          (par_listed stmts c.loop-index.index c.loop-index.from c.loop-index.stage (map lane_text c.loop-index.lanes.items) (map lane_text w.push.new.self.items) (map lane_text c.match-blocks_of.lanes.items) c.index-stmts-index.result _ c.loop-index-test.true c.index-stmts-index.is w.in-Some.ensures
          (ap (λ l. map lane_text l) w.in_ok-push.ensures.items ∙ map-append lane_text c.loop-index.lanes.items _)
          (ap (λ (v : Vec LaneText Global). map lane_text v.items) w.lanes-is ∙ w.in_ok-add_blocks.ensures)
          c.loop-index.invariant))
      | in_default w ↦
          subst (λ n. ListedSoFar stmts (c.loop-index.index + 1) n c.match-blocks_of.stage (map lane_text c.match-blocks_of.lanes.items)) (sym w.from-is)
          (subst (λ n. ListedSoFar stmts (c.loop-index.index + 1) c.loop-index.from n (map lane_text c.match-blocks_of.lanes.items)) (sym w.stage-is)
          (subst (λ (v : Vec LaneText Global). ListedSoFar stmts (c.loop-index.index + 1) c.loop-index.from c.loop-index.stage (map lane_text v.items)) (sym w.lanes-is)
          (run_goes_on stmts c.loop-index.index c.loop-index.from c.loop-index.stage (map lane_text c.loop-index.lanes.items) c.index-stmts-index.result c.loop-index-test.true c.index-stmts-index.is w.in_default.ensures c.loop-index.invariant)))
    ]

pub returns : goal.returns
returns c =
    all_listed c.as_slice-stmts.result.now c.loop-index.index c.loop-index.from c.loop-index.stage (map lane_text c.loop-index.lanes.items) (map lane_text c.push-2.new.self.items) c.loop-index-test.false c.loop-index.auto.index-end
    (ap (λ l. map lane_text l) c.in_ok-push-2.ensures.items ∙ map-append lane_text c.loop-index.lanes.items _)
    c.loop-index.invariant
    ∙ ap (λ b. lanes_of b) (ap (λ l. body_from l) c.as_slice-stmts.ensures ∙ sym (body_of_lem c.args.body.now))
