use Rattle.std.proofs.Common.{◌≡◌, map, take}
use Rattle.std.specs.List.{All}
use Rattle.rcv_charts.specs.Wires.{step_of, steps_from, LeadsOn}
use Rattle.rcv_charts.proofs.wires.wires_of.Given as goal

abbrev pub invariant-loop-from : goal.invariant-loop-from
invariant-loop-from l = record {
  each_step : map step_of l.wires.items ≡ steps_from 0 (take l.from l.states);
  lead : All (LeadsOn l.states) l.wires.items;
}
