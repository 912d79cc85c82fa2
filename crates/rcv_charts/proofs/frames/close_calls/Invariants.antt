use Rattle.rcv_charts.specs.Chart.{Moves}
use Rattle.rcv_charts.proofs.frames.close_calls.Given as goal

abbrev pub invariant-loop : goal.invariant-loop
invariant-loop l = Moves l.fn.drawing l.drawing
