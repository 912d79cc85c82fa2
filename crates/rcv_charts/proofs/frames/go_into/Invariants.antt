use Rattle.rcv_charts.specs.Chart.{Moves}
use Rattle.rcv_charts.proofs.frames.go_into.Given as goal

abbrev pub invariant-loop-depth : goal.invariant-loop-depth
invariant-loop-depth l = Moves l.fn.drawing l.drawing
