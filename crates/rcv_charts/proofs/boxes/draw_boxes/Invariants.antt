use Rattle.rcv_points.specs.Follow.{net_in}
use Rattle.rcv_charts.specs.Machine.{Adds, ShowsBox}
use Rattle.rcv_charts.proofs.boxes.draw_boxes.Given as goal

abbrev pub invariant-loop-index : goal.invariant-loop-index
invariant-loop-index l = Adds l.index (ShowsBox l.source.roles.now (net_in l.source.points.now) l.states) l.fn.drawing l.drawing
