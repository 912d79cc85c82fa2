-- If the rest stands so far, all do.
use Rattle.std.proofs.Common.{drop}
use Rattle.rcv_scene.specs.Grid.{AreBeside}
use Rattle.rcv_scene.proofs.layout.are_beside.Given as goal

abbrev pub invariant-loop-x : goal.invariant-loop-x
invariant-loop-x l = AreBeside l.least (drop l.x-index l.columns) → AreBeside 0 l.columns
