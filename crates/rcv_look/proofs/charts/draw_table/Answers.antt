-- The text is that of the table's picture.
use Rattle.rcv_look.specs.Drawing.{IsTableDrawing}
use Rattle.rcv_look.proofs.Pictures.{drawn_as}
use Rattle.rcv_look.proofs.charts.draw_table.Goals as goal

pub returns : goal.returns
returns c = drawn_as c.drawn.result c.in_ok-picture.picture (IsTableDrawing c.args.accepted.now.protocol)
    (λ bytes text. record { picture = c.in_ok-picture.picture; table = c.in_ok-table.table; is_table = c.in_ok-table.ensures; titled = c.in_ok-picture.ensures; is_text = text })
    c.drawn.ensures.status c.drawn.ensures.text
