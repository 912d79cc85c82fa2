-- A wire more.
use Rattle.std.proofs.Common.{sym, ap, subst}
use Rattle.rcv_charts.specs.declared.wires.Wire.{Wire}
use Rattle.rcv_charts.specs.Drawn.{DrawingView}
use Rattle.rcv_charts.specs.Machine.{IsWire, ShowsWire}
use Rattle.rcv_charts.proofs.Showing.{one_added, item_at}
use Rattle.rcv_charts.proofs.ways.Ways.draw.Goals as goal

pub loop-number-preserved : goal.loop-number-preserved
loop-number-preserved c =
    let states = c.args.states.now in
    let wires = c.args.wires.now in
    one_added (ShowsWire states wires) c.loop-number.number c.args.drawing.now c.loop-number.drawing c.put_group.new.self c.in_ok-group.group c.loop-number.invariant
    (ap (λ (d : DrawingView). d.groups) c.in_ok-put_group.ensures)
    (subst (λ (wire : Wire). IsWire states wire c.in_ok-group.group) (sym (item_at wires c.loop-number.number c.index-wires-number.result _ c.loop-number-test.true c.index-wires-number.is)) c.in_ok-group.ensures.title)
