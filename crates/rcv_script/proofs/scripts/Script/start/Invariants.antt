use Rattle.std.proofs.Common.{◌≡◌, ◌≤◌, drop, map}
use Rattle.rcv_model.specs.Script.{with_first_values, first_vars}
use Rattle.rcv_script.specs.Lines.{line_of}
use Rattle.rcv_script.proofs.scripts.Script.start.Given as goal

abbrev pub invariant-loop-line : goal.invariant-loop-line
invariant-loop-line l =
    (with_first_values l.vars l.place (map line_of (drop l.line-index l.line-items)) ≡ first_vars (map line_of l.line-items))
    × (l.place ≤ l.line-index)
