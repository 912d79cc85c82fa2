use Rattle.std.proofs.Common.{◌≡◌, ◌++◌, drop}
use Rattle.rcv_listing.specs.Written.{lines_of_points}
use Rattle.rcv_listing.proofs.written.lines_of_points.Given as goal

abbrev pub invariant-loop-origin : goal.invariant-loop-origin
invariant-loop-origin l = l.lines.items ++ lines_of_points l.receivers l.dos (drop l.origin-index l.origins) ≡ lines_of_points l.receivers l.dos l.origins
