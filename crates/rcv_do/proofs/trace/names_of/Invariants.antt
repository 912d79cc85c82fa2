use Rattle.std.proofs.Common.{◌≡◌, ◌++◌, drop}
use Rattle.rcv_do.specs.Code.{protocols_in}
use Rattle.rcv_do.proofs.Calling.{names_from}
use Rattle.rcv_do.proofs.trace.names_of.Given as goal

abbrev pub invariant-loop-index : goal.invariant-loop-index
invariant-loop-index l = l.names ++ names_from (drop l.index (protocols_in l.parts)) ≡ names_from (protocols_in l.parts)
