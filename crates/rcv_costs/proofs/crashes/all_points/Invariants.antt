use Rattle.std.proofs.Common.{◌≡◌, ◌<◌, ℕ, length}
use Rattle.rcv_costs.specs.Rehearsal.{DiffersInCrashes}
use Rattle.rcv_costs.specs.Sampling.{of_role, AreShort}
use Rattle.rcv_costs.specs.Costs.{AreOwnPoints}
use Rattle.rcv_costs.proofs.crashes.all_points.Given as goal

abbrev pub invariant-loop-role : goal.invariant-loop-role
invariant-loop-role l = record {
  differs : DiffersInCrashes l.initial.setup l.setup;
  all : length l.points.items ≡ l.role;
  short : AreShort l.points.items;
  each : (r : ℕ) → r < l.role → AreOwnPoints l.initial.setup r (of_role l.points.items r);
}
