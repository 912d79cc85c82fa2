use Rattle.std.proofs.Common.{◌≡◌, drop}
use Rattle.std.specs.Prelude.{map}
use Rattle.rcv_plan.specs.Lines.{line_in, has_limit}
use Rattle.rcv_plan.proofs.known.any_limit.Given as goal

abbrev pub invariant-loop-line : goal.invariant-loop-line
invariant-loop-line l = has_limit (map line_in (drop l.line-index l.lines)) ≡ has_limit (map line_in l.lines)
