use Rattle.std.proofs.Common.{◌≡◌, ◌+◌, length}
use Rattle.rcv_checkpoint.proofs.tests.kept.Given as goal

abbrev pub invariant-loop-count : goal.invariant-loop-count
invariant-loop-count l = (length l.tail.states ≡ l.count + 1) × (l.tail.base ≡ 0) × (l.tail.every ≡ l.every)
