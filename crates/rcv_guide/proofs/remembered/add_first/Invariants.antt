use Rattle.std.proofs.Common.{◌≡◌, ◌++◌, take}
use Rattle.rcv_ledger.specs.Logs.{log_at}
use Rattle.rcv_guide.proofs.remembered.add_first.Given as goal

abbrev pub invariant-loop-number : goal.invariant-loop-number
invariant-loop-number l = l.events.items ≡ l.initial.events.items ++ take l.number (log_at l.ledger.logs l.role)
