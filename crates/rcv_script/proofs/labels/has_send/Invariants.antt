use Rattle.std.proofs.Common.{◌≡◌, drop, map}
use Rattle.rcv_script.specs.Lines.{line_of}
use Rattle.rcv_script.specs.Machine.{has_send}
use Rattle.rcv_script.proofs.labels.has_send.Given as goal

abbrev pub invariant-loop-line : goal.invariant-loop-line
invariant-loop-line l = has_send l.label (map line_of (drop l.line-index l.lines)) ≡ has_send l.label (map line_of l.lines)
