-- The frame goes around what was drawn.
use Rattle.std.proofs.Common.{◌∙◌}
use Rattle.std.proofs.lemmas.Result.{on_ok_weaker}
use Rattle.rcv_charts.proofs.Growth.{put_framed}
use Rattle.rcv_charts.proofs.frames.put_frame.Goals as goal

pub returns : goal.returns
returns c =
    on_ok_weaker c.put_inner.result
    (λ put. put_framed _ c.args.inner c.skip.new.self c.args.drawing.now c.put_group.new.self c.put_inner.new.self c.in_ok-group.group c.down-bottom.result.0 c.skip.ensures.moves c.down-bottom.ensures c.in_ok-group.ensures.title (c.in_ok-group.ensures.upper ∙ c.down-top.ensures) c.in_ok-group.ensures.lower c.in_ok-put_group.ensures put)
    c.put_inner.ensures
