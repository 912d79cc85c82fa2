use Rattle.std.proofs.Common.{◌≡◌, ◌++◌, take}
use Rattle.rcv_tree.specs.Lists.{lists_in}
use Rattle.rcv_charts.specs.Titles.{texts_in}
use Rattle.rcv_charts.proofs.boxes.add_steps.Given as goal

abbrev pub invariant-loop-step : goal.invariant-loop-step
invariant-loop-step l = texts_in l.shapes.items ≡ texts_in l.fn.shapes.items ++ lists_in (take l.step-index l.steps)
