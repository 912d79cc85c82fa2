use Rattle.std.proofs.Common.{drop}
use Rattle.rcv_model.specs.Text.{body_of, bodies_of, body_from, bodies_from}
use Rattle.rcv_charts.specs.Chart.{Draws, DrawsBlocks, DrawsBehind, SoFar, LanesSoFar}
use Rattle.rcv_charts.proofs.sequence.+draw.Given as goal

abbrev pub invariant-draw_block-loop-stmt : goal.invariant-draw_block-loop-stmt
invariant-draw_block-loop-stmt l =
    SoFar (Draws l.fn.chart.roles.now (body_of l.fn.block)) (Draws l.fn.chart.roles.now (body_from (drop l.stmt-index l.stmt-items))) l.fn.drawing l.drawing

abbrev pub invariant-draw_blocks-loop-block : goal.invariant-draw_blocks-loop-block
invariant-draw_blocks-loop-block l =
    SoFar (DrawsBlocks l.fn.chart.roles.now l.fn.word (bodies_of l.fn.blocks)) (DrawsBehind l.fn.chart.roles.now l.fn.word (bodies_from (drop l.block-index l.others))) l.fn.drawing l.drawing

abbrev pub invariant-draw_beside-loop-block : goal.invariant-draw_beside-loop-block
invariant-draw_beside-loop-block l =
    LanesSoFar l.fn.chart.roles.now (bodies_of l.fn.blocks) (bodies_from (drop l.block-index l.others)) l.end.0 l.fn.drawing l.drawing
