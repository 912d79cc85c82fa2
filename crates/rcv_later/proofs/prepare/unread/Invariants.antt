-- The preparations so far.
use Rattle.std.proofs.Common.{◌≡◌}
use Rattle.rcv_later.specs.Preparing.{waiting}
use Rattle.rcv_later.proofs.prepare.unread.Given as goal

abbrev pub invariant-loop-by : goal.invariant-loop-by
invariant-loop-by l = l.all.items ≡ waiting l.fn.input l.by
