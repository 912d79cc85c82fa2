use Rattle.std.proofs.Common.{◌≡◌, ◌++◌, drop}
use Rattle.rcv_listing.specs.Written.{call_lines}
use Rattle.rcv_listing.proofs.written.call_lines.Given as goal

abbrev pub invariant-loop-call : goal.invariant-loop-call
invariant-loop-call l = l.lines ++ call_lines l.dos (drop l.call-index l.calls) ≡ call_lines l.dos l.calls
