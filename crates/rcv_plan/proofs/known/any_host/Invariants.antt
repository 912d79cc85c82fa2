use Rattle.std.proofs.Common.{◌≡◌, drop}
use Rattle.std.specs.Prelude.{map}
use Rattle.rcv_plan.specs.Lines.{line_in, is_hosted}
use Rattle.rcv_plan.proofs.known.any_host.Given as goal

abbrev pub invariant-loop-line : goal.invariant-loop-line
invariant-loop-line l = is_hosted l.role (map line_in (drop l.line-index l.lines)) ≡ is_hosted l.role (map line_in l.lines)
