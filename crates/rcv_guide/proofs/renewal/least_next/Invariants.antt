use Rattle.std.proofs.Common.{MatchOption}
use Rattle.rcv_guide.specs.Renewal.{AreAllPassed, IsLeast}
use Rattle.rcv_guide.proofs.renewal.least_next.Given as goal

abbrev pub invariant-loop-role : goal.invariant-loop-role
invariant-loop-role l = MatchOption l.best (AreAllPassed l.ledger.logs l.counts l.role) (IsLeast l.ledger.logs l.counts l.role)
