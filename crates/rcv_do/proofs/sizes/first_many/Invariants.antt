use Rattle.std.proofs.Common.{◌≡◌, drop}
use Rattle.rcv_module.specs.Parts.{first_from}
use Rattle.rcv_do.specs.Counting.{is_many}
use Rattle.rcv_do.proofs.sizes.first_many.Given as goal

abbrev pub invariant-loop-number : goal.invariant-loop-number
invariant-loop-number l = first_from is_many l.number (drop l.number l.marks) ≡ first_from is_many 0 l.marks
