-- Statements are drawn one by one, and blocks.
use Rattle.std.proofs.Common.{ℕ, ◌+◌, List, drop, codes, sym, ◌∙◌, ap, subst, arith}
use Rattle.std.proofs.lemmas.Result.{on_ok_weaker}
use Rattle.rcv_model.specs.Text.{Body, Single, Again, Bodies, body_of, bodies_of, stmt_body, body_from, bodies_from}
use Rattle.rcv_model.proofs.Text.{bodies_of_lem, stmt_body-Message, stmt_body-Continue}
use Rattle.rcv_charts.specs.Drawn.{DrawingView}
use Rattle.rcv_charts.specs.Chart.{Draws, DrawsBlocks, DrawsBehind, SoFar, LanesSoFar, AddsBody, AddsFrame}
use Rattle.rcv_charts.proofs.Stepping.{stmt_next, block_next, none_left}
use Rattle.rcv_charts.proofs.Growth.{one_statement, all_statements, first_block, next_block, all_blocks, blocks_low, body_low, lanes_low, one_lane, next_lane, all_lanes, adds_same, one_message, one_continue, one_choice, one_loop, one_par}
use Rattle.rcv_charts.proofs.sequence.+draw.Goals as goal

pub draw_block-loop-stmt-preserved : goal.draw_block-loop-stmt-preserved
draw_block-loop-stmt-preserved t c =
    let roles = c.args.chart.now.roles.now in
    let body = body_of c.args.block.now in
    let items = c.as_slice-stmt-items.result.now in
    let i = c.loop-stmt.stmt-index in
    one_statement roles (Draws roles body) (stmt_body c.stmt-item.result) (body_from (drop (i + 1) items)) c.args.drawing.now c.loop-stmt.drawing c.go_into.new.drawing c.draw_stmt.new.drawing
    (subst (λ (x : Body). SoFar (Draws roles body) (Draws roles x) c.args.drawing.now c.loop-stmt.drawing) (stmt_next items i c.stmt-item.result c.loop-stmt-test.true c.stmt-item.is) c.loop-stmt.invariant)
    c.in_ok-framed.ensures c.in_ok-draw_stmt.ensures

pub draw_blocks-loop-block-init : goal.draw_blocks-loop-block-init
draw_blocks-loop-block-init t c =
    let roles = c.args.chart.now.roles.now in
    let word = c.args.word.now in
    let others = bodies_from c.in-Some.others.now in
    subst (λ (bs : Bodies). SoFar (DrawsBlocks roles word bs) (DrawsBehind roles word others) c.args.drawing.now c.draw_block.new.drawing)
    (sym (bodies_of_lem c.args.blocks.now ∙ ap (λ l. bodies_from l) (sym c.as_slice.ensures ∙ c.in-Some.ensures.cases.0)))
    (first_block roles word (body_of c.in-Some.first.now) others c.args.drawing.now c.skip.new.self c.draw_block.new.drawing c.skip.ensures.moves c.in_ok-draw_block.ensures)

pub draw_blocks-loop-block-preserved : goal.draw_blocks-loop-block-preserved
draw_blocks-loop-block-preserved t c =
    let roles = c.args.chart.now.roles.now in
    let word = c.args.word.now in
    let bodies = bodies_of c.args.blocks.now in
    let items = c.in-Some.others.now in
    let i = c.loop-block.block-index in
    let b = c.block-item.result in
    next_block roles (DrawsBlocks roles word bodies) word (body_of b) (bodies_from (drop (i + 1) items)) c.args.drawing.now c.loop-block.drawing c.draw_divider.new.drawing c.draw_block-in-loop-block.new.drawing
    (subst (λ (bs : Bodies). SoFar (DrawsBlocks roles word bodies) (DrawsBehind roles word bs) c.args.drawing.now c.loop-block.drawing) (block_next items i b c.loop-block-test.true c.block-item.is) c.loop-block.invariant)
    c.in_ok-draw_divider.ensures c.in_ok-draw_block-2.ensures

pub draw_block-returns : goal.draw_block-returns
draw_block-returns t c =
    let roles = c.args.chart.now.roles.now in
    let body = body_of c.args.block.now in
    let items = c.as_slice-stmt-items.result.now in
    all_statements roles body c.args.drawing.now c.loop-stmt.drawing c.go_into-2.new.drawing
    (subst (λ (x : Body). SoFar (Draws roles body) (Draws roles x) c.args.drawing.now c.loop-stmt.drawing) (ap (λ l. body_from l) (none_left items c.loop-stmt.stmt-index c.loop-stmt-test.false)) c.loop-stmt.invariant)
    c.in_ok-go_into.ensures

pub draw_blocks-returns : goal.draw_blocks-returns
draw_blocks-returns t c =
    let roles = c.args.chart.now.roles.now in
    let word = c.args.word.now in
    let bodies = bodies_of c.args.blocks.now in
    all_blocks roles word bodies c.args.drawing.now c.loop-block.drawing
    (subst (λ (bs : Bodies). SoFar (DrawsBlocks roles word bodies) (DrawsBehind roles word bs) c.args.drawing.now c.loop-block.drawing) (ap (λ l. bodies_from l) (none_left c.in-Some.others.now c.loop-block.block-index c.loop-block-test.false)) c.loop-block.invariant)

pub draw_choice-put_frame-requires-clause-down : goal.draw_choice-put_frame-requires-clause-down
draw_choice-put_frame-requires-clause-down t c =
    let low = blocks_low c.args.chart.now.roles.now (codes "or") (bodies_of c.args.branches.now) c.inner-inner.result c.draw_blocks.new.drawing c.in_ok-draw_blocks.ensures in
    let down = ap (λ (d : DrawingView). d.down) c.inner-inner.ensures in
    omega (arith, low, down)

pub draw_choice-returns : goal.draw_choice-returns
draw_choice-returns t c =
    on_ok_weaker c.put_frame.result
    (λ put. one_choice c.args.chart.now.roles.now c.args.subject (bodies_of c.args.branches.now) c.args.drawing.now c.open_frame.new.drawing c.put_frame.new.drawing c.inner-inner.result c.draw_blocks.new.drawing c.open_frame.ensures.moves c.open_frame.ensures.below
    (ap (λ (d : DrawingView). d.groups) c.inner-inner.ensures) (ap (λ (d : DrawingView). d.down) c.inner-inner.ensures) c.in_ok-draw_blocks.ensures
    (subst (λ (x : List ℕ). AddsFrame x c.draw_blocks.new.drawing c.open_frame.new.drawing c.put_frame.new.drawing) c.in_ok-title.ensures.value put))
    c.put_frame.ensures

pub draw_loop-put_frame-requires-clause-down : goal.draw_loop-put_frame-requires-clause-down
draw_loop-put_frame-requires-clause-down t c =
    let low = body_low c.args.chart.now.roles.now (body_of c.args.body.now) c.skip.new.self c.draw_block.new.drawing c.in_ok-draw_block.ensures in
    let down = ap (λ (d : DrawingView). d.down) c.inner-inner.ensures in
    let skips = c.skip.ensures.moves.down in
    omega (arith, low, down, skips)

pub draw_loop-returns : goal.draw_loop-returns
draw_loop-returns t c =
    let down = ap (λ (d : DrawingView). d.down) c.inner-inner.ensures in
    let skips = c.skip.ensures.moves.down in
    on_ok_weaker c.put_frame.result
    (λ put. one_loop c.args.chart.now.roles.now c.args.name.now (body_of c.args.body.now) c.args.drawing.now c.open_frame-top.new.drawing c.put_frame.new.drawing c.skip.new.self c.draw_block.new.drawing c.open_frame-top.ensures.moves c.open_frame-top.ensures.below
    (c.skip.ensures.moves.same ∙ ap (λ (d : DrawingView). d.groups) c.inner-inner.ensures) (omega (arith, down, skips)) c.in_ok-draw_block.ensures
    (subst (λ (x : List ℕ). AddsFrame x c.draw_block.new.drawing c.open_frame-top.new.drawing c.put_frame.new.drawing) c.in_ok-title.ensures.value put))
    c.put_frame.ensures

pub draw_par-put_frame-requires-clause-down : goal.draw_par-put_frame-requires-clause-down
draw_par-put_frame-requires-clause-down t c =
    let low = lanes_low c.args.chart.now.roles.now (bodies_of c.args.blocks.now) c.inner-inner.result c.draw_lanes.new.drawing c.in_ok-draw_lanes.ensures in
    let down = ap (λ (d : DrawingView). d.down) c.inner-inner.ensures in
    omega (arith, low, down)

pub draw_par-returns : goal.draw_par-returns
draw_par-returns t c =
    on_ok_weaker c.put_frame.result
    (λ put. one_par c.args.chart.now.roles.now (bodies_of c.args.blocks.now) c.args.drawing.now c.open_frame.new.drawing c.put_frame.new.drawing c.inner-inner.result c.draw_lanes.new.drawing c.open_frame.ensures.moves c.open_frame.ensures.below
    (ap (λ (d : DrawingView). d.groups) c.inner-inner.ensures) (ap (λ (d : DrawingView). d.down) c.inner-inner.ensures) c.in_ok-draw_lanes.ensures
    (subst (λ (x : List ℕ). AddsFrame x c.draw_lanes.new.drawing c.open_frame.new.drawing c.put_frame.new.drawing) c.in_ok-title.ensures.value put))
    c.put_frame.ensures

pub draw_lane-returns : goal.draw_lane-returns
draw_lane-returns t c =
    let roles = c.args.chart.now.roles.now in
    one_lane roles (body_of c.args.block.now) c.args.end.0 c.max.result c.down-top.result.0 c.args.drawing.now c.skip.new.self c.draw_block.new.drawing c.go_to.new.self c.down-top.ensures c.skip.ensures.moves
    (subst (λ (rs : List (List ℕ)). AddsBody rs (body_of c.args.block.now) c.skip.new.self c.draw_block.new.drawing) c.lane-lane.ensures c.in_ok-draw_block.ensures)
    c.go_to.ensures (omega (arith, c.max.ensures)) (omega (arith, c.max.ensures, c.down.ensures))

pub draw_beside-loop-block-preserved : goal.draw_beside-loop-block-preserved
draw_beside-loop-block-preserved t c =
    let roles = c.args.chart.now.roles.now in
    let whole = bodies_of c.args.blocks.now in
    let items = c.in-Some.others.now in
    let i = c.loop-block.block-index in
    let b = c.block-item.result in
    next_lane roles whole (body_of b) (bodies_from (drop (i + 1) items)) c.loop-block.end.0 c.max.result c.in_ok-end-2.end.0 c.args.drawing.now c.loop-block.drawing c.draw_and.new.drawing c.go_to.new.self c.draw_lane-in-loop-block.new.drawing
    (subst (λ (bs : Bodies). LanesSoFar roles whole bs c.loop-block.end.0 c.args.drawing.now c.loop-block.drawing) (block_next items i b c.loop-block-test.true c.block-item.is) c.loop-block.invariant)
    c.in_ok-draw_and.ensures (omega (arith, c.max.ensures)) (omega (arith, c.max.ensures, c.down.ensures)) (ap (λ (d : DrawingView). d.groups) c.go_to.ensures) (ap (λ (d : DrawingView). d.down) c.go_to.ensures ∙ c.down-top.ensures) c.in_ok-end-2.ensures

pub draw_beside-returns : goal.draw_beside-returns
draw_beside-returns t c =
    let roles = c.args.chart.now.roles.now in
    let whole = bodies_of c.args.blocks.now in
    on_ok_weaker c.draw_sides.result
    (λ same. all_lanes roles whole c.loop-block.end.0 c.args.drawing.now c.loop-block.drawing c.draw_sides.new.drawing
    (subst (λ (bs : Bodies). LanesSoFar roles whole bs c.loop-block.end.0 c.args.drawing.now c.loop-block.drawing) (ap (λ l. bodies_from l) (none_left c.in-Some.others.now c.loop-block.block-index c.loop-block-test.false)) c.loop-block.invariant)
    (ap (λ (d : DrawingView). d.groups) (same ∙ c.go_to-2.ensures)) (ap (λ (d : DrawingView). d.down) (same ∙ c.go_to-2.ensures)))
    c.draw_sides.ensures

pub draw_stmt-returns-in-Message : goal.draw_stmt-returns-in-Message
draw_stmt-returns-in-Message t c =
    let roles = c.args.chart.now.roles.now in
    let m = c.in-Message in
    on_ok_weaker c.draw_message.result
    (λ one. adds_same roles (Single m.label m.sorts m.sender m.receiver m.point) (stmt_body c.args.stmt.now) c.args.drawing.now c.draw_message.new.drawing
    (λ rest. sym (ap (λ s. stmt_body s rest) m.is ∙ stmt_body-Message m.label m.sorts m.sender m.receiver m.point rest))
    (one_message roles m.label m.sorts m.sender m.receiver m.point c.args.drawing.now c.draw_message.new.drawing one))
    c.draw_message.ensures

pub draw_stmt-returns-in-Continue : goal.draw_stmt-returns-in-Continue
draw_stmt-returns-in-Continue t c =
    let roles = c.args.chart.now.roles.now in
    on_ok_weaker c.draw_continue.result
    (λ one. adds_same roles (Again c.in-Continue.name) (stmt_body c.args.stmt.now) c.args.drawing.now c.draw_continue.new.drawing
    (λ rest. sym (ap (λ s. stmt_body s rest) c.in-Continue.is ∙ stmt_body-Continue c.in-Continue.name rest))
    (one_continue roles c.in-Continue.name c.args.drawing.now c.draw_continue.new.drawing one))
    c.draw_continue.ensures
