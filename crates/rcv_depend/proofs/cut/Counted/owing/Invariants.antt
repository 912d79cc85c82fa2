use Rattle.std.proofs.Common.{ℕ, ◌<◌, ◌≤◌}
use Rattle.std.specs.Prelude.{slice_index}
use Rattle.rcv_depend.specs.Logs.{between}
use Rattle.rcv_depend.proofs.cut.Counted.owing.Given as goal

abbrev pub invariant-loop-from : goal.invariant-loop-from
invariant-loop-from l = (a b : ℕ) → a < l.from → b < l.roles → slice_index l.self.taken (between a b) ≤ slice_index l.self.put (between a b)

abbrev pub invariant-loop-to : goal.invariant-loop-to
invariant-loop-to l = (a b : ℕ) → b < l.roles → between a b < between l.from l.to → slice_index l.self.taken (between a b) ≤ slice_index l.self.put (between a b)
