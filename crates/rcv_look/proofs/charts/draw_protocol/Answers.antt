-- The text is that of the protocol's picture.
use Rattle.rcv_look.specs.Drawing.{IsProtocolDrawing}
use Rattle.rcv_look.proofs.Pictures.{drawn_as}
use Rattle.rcv_look.proofs.charts.draw_protocol.Goals as goal

pub returns : goal.returns
returns c = drawn_as c.drawn.result c.in_ok-picture.picture (IsProtocolDrawing c.args.protocol.now)
    (λ bytes text. record { picture = c.in_ok-picture.picture; chart = c.in_ok-picture.ensures.chart; titled = c.in_ok-picture.ensures.titles; is_text = text }) c.drawn.ensures.status c.drawn.ensures.text
