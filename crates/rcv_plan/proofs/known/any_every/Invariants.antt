use Rattle.std.proofs.Common.{◌≡◌, drop}
use Rattle.std.specs.Prelude.{map}
use Rattle.rcv_plan.specs.Lines.{line_in, has_every}
use Rattle.rcv_plan.proofs.known.any_every.Given as goal

abbrev pub invariant-loop-line : goal.invariant-loop-line
invariant-loop-line l = has_every l.role (map line_in (drop l.line-index l.lines)) ≡ has_every l.role (map line_in l.lines)
