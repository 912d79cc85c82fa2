use Rattle.std.proofs.Common.{◌-◌, suc, length}
use Rattle.rcv_session.specs.Session.{rules_of}
use Rattle.rcv_core.specs.Book.{most_entries}
use Rattle.rcv_core.specs.Skips.{IsSkip}
use Rattle.rcv_costs.specs.Rehearsal.{GoesOnCalmly}
use Rattle.rcv_costs.proofs.rehearsal.run_to_recovery.Given as goal

abbrev pub invariant-loop-entry : goal.invariant-loop-entry
invariant-loop-entry l = GoesOnCalmly l.initial.book l.book × IsSkip l.book l.skip

abbrev pub decreases-loop-entry : goal.decreases-loop-entry
decreases-loop-entry l = suc (most_entries (rules_of l.book.setup)) - length l.book.entries
