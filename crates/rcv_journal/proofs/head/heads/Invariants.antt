use Rattle.std.proofs.Common.{◌≡◌}
use Rattle.rcv_journal.specs.Heads.{heads_to}
use Rattle.rcv_journal.proofs.head.heads.Given as goal

abbrev pub invariant-loop-number : goal.invariant-loop-number
invariant-loop-number g l = l.heads.items ≡ heads_to g.B.Beginning.begun l.setup l.number
