-- The divider stands where the drawing has come to.
use Rattle.std.proofs.Common.{◌∙◌, arith}
use Rattle.rcv_charts.proofs.Growth.{put_one, adds_moves}
use Rattle.rcv_charts.proofs.sequence.draw_divider.Goals as goal

pub returns : goal.returns
returns c =
    adds_moves _ c.args.drawing.now c.put_group.new.self c.skip-2.new.self
    (put_one _ c.args.drawing.now c.skip.new.self c.put_group.new.self c.in_ok-group.group c.skip.ensures.moves (c.skip.ensures.below (omega arith)) c.in_ok-group.ensures.title (c.in_ok-group.ensures.upper ∙ c.down.ensures) (c.in_ok-group.ensures.lower ∙ c.down.ensures) c.in_ok-put_group.ensures)
    c.skip-2.ensures.moves
