use Rattle.rcv_charts.specs.Machine.{Adds, ShowsWire}
use Rattle.rcv_charts.proofs.ways.Ways.draw.Given as goal

abbrev pub invariant-loop-number : goal.invariant-loop-number
invariant-loop-number l = Adds l.number (ShowsWire l.states l.wires) l.fn.drawing l.drawing
