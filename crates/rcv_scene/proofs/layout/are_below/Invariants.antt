-- If the rest stands so low, all do.
use Rattle.std.proofs.Common.{drop}
use Rattle.rcv_scene.specs.Grid.{AreBelow}
use Rattle.rcv_scene.proofs.layout.are_below.Given as goal

abbrev pub invariant-loop-row : goal.invariant-loop-row
invariant-loop-row l = AreBelow l.least (drop l.row-index l.rows) → AreBelow 0 l.rows
