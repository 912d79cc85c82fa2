use Rattle.std.proofs.Common.{◌≡◌}
use Rattle.rcv_charts.proofs.sequence.draw_sides.Given as goal

abbrev pub invariant-loop-block : goal.invariant-loop-block
invariant-loop-block l = l.drawing ≡ l.fn.drawing
