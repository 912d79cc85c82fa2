use Rattle.std.proofs.Common.{◌≡◌, ℕ, ◌++◌, map, take}
use Rattle.std.specs.List.{All}
use Rattle.rcv_charts.specs.Wires.{step_of, LeadsOn}
use Rattle.rcv_charts.proofs.wires.add_steps.Given as goal

abbrev pub invariant-loop-step : goal.invariant-loop-step
invariant-loop-step l = record {
  each_step : map step_of l.wires.items ≡ map step_of l.fn.wires.items ++ map (λ (z : ℕ). (l.from, z)) (take l.step l.next);
  lead : All (LeadsOn l.states) l.fn.wires.items → All (LeadsOn l.states) l.wires.items;
}
