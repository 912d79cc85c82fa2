-- The group stands where the drawing has come to.
use Rattle.std.proofs.Common.{◌∙◌, arith}
use Rattle.std.proofs.lemmas.Result.{on_ok_weaker}
use Rattle.rcv_charts.proofs.Growth.{put_one}
use Rattle.rcv_charts.proofs.sequence.draw_continue.Goals as goal

pub returns : goal.returns
returns c =
    on_ok_weaker c.put_group.result
    (λ put. put_one _ c.args.drawing.now c.skip.new.self c.put_group.new.self c.in_ok-group.group c.skip.ensures.moves (c.skip.ensures.below (omega arith)) c.in_ok-group.ensures.title (c.in_ok-group.ensures.upper ∙ c.down.ensures) (c.in_ok-group.ensures.lower ∙ c.down.ensures) put)
    c.put_group.ensures
