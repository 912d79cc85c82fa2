-- Block by block.
use Rattle.std.proofs.Common.{[], ◌∷◌, ◌++◌, map, sym, ◌∙◌, ap}
use Rattle.std.proofs.lemmas.List.{map-append}
use Rattle.rcv_model.specs.Text.{body_from, bodies_of, bodies_from}
use Rattle.rcv_model.specs.Places.{beside}
use Rattle.rcv_model.specs.Text.{Body}
use Rattle.rcv_model.proofs.Text.{bodies_of_lem, body_of_lem}
use Rattle.rcv_points.specs.Lanes.{lane_text}
use Rattle.rcv_points.proofs.TextLanes.{beside_more, beside_all}
use Rattle.rcv_points.proofs.lanes.add_blocks.Goals as goal

pub loop-block-init : goal.loop-block-init
loop-block-init c = ap (λ b. map lane_text c.args.lanes.now.items ++ beside c.args.stage b) (ap (λ l. bodies_from l) c.as_slice-block-items.ensures ∙ sym (bodies_of_lem c.args.blocks.now))

pub loop-block-preserved : goal.loop-block-preserved
loop-block-preserved c =
    beside_more c.args.stage (map lane_text c.loop-block.lanes.items) (map lane_text c.args.lanes.now.items ++ beside c.args.stage (bodies_of c.args.blocks.now)) c.as_slice-block-items.result.now c.loop-block.block-index c.block-item.result (map lane_text c.push.new.self.items) c.loop-block-test.true c.block-item.is
    (ap (λ l. map lane_text l) c.in_ok-push.ensures.items ∙ map-append lane_text c.loop-block.lanes.items _ ∙ ap (λ (b : Body). map lane_text c.loop-block.lanes.items ++ record { stage = c.args.stage; body = b } ∷ []) (ap (λ l. body_from l) c.as_slice.ensures ∙ sym (body_of_lem c.block-item.result)))
    c.loop-block.invariant

pub returns : goal.returns
returns c = beside_all c.args.stage (map lane_text c.loop-block.lanes.items) (map lane_text c.args.lanes.now.items ++ beside c.args.stage (bodies_of c.args.blocks.now)) c.as_slice-block-items.result.now c.loop-block.block-index c.loop-block-test.false c.loop-block.invariant
