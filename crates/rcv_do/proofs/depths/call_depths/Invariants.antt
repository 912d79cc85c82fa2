use Rattle.std.proofs.Common.{◌≡◌, ◌++◌, drop, map}
use Rattle.rcv_module.specs.Parts.{parts_of, part_of}
use Rattle.rcv_do.specs.Depths.{call_depths}
use Rattle.rcv_do.proofs.depths.call_depths.Given as goal

abbrev pub invariant-loop-other : goal.invariant-loop-other
invariant-loop-other l = l.depths.items ++ call_depths (map part_of (drop l.other-index l.other-items)) ≡ call_depths (parts_of l.whole)
