-- The statements that were drawn.
use Rattle.rcv_model.specs.Text.{body_of}
use Rattle.rcv_charts.proofs.Growth.{is_chart, chart_titled}
use Rattle.rcv_charts.proofs.protocol.protocol_picture.Goals as goal

pub returns-clause-titles : goal.returns-clause-titles
returns-clause-titles c =
    chart_titled c.args.protocol.now.roles (body_of c.args.protocol.now.body) c.in_ok-picture.picture
    (is_chart c.args.protocol.now.roles (body_of c.args.protocol.now.body) c.in_ok-drawing.drawing c.in_ok-picture.picture c.in_ok-drawing.ensures c.in_ok-picture.ensures.groups c.in_ok-picture.ensures.height)
