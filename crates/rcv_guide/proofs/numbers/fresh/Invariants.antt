use Rattle.std.proofs.Common.{◌≡◌, replicate}
use Rattle.rcv_guide.specs.Numbers.{at_start}
use Rattle.rcv_guide.proofs.numbers.fresh.Given as goal

abbrev pub invariant-loop-role : goal.invariant-loop-role
invariant-loop-role l = l.numbers.items ≡ replicate l._role at_start
