use Rattle.std.proofs.Common.{◌-◌, suc, length}
use Rattle.rcv_session.specs.Session.{rules_of}
use Rattle.rcv_core.specs.Book.{most_entries}
use Rattle.rcv_super.proofs.Turning.{Turns}
use Rattle.rcv_super.proofs.session.Session.finish.Given as goal

abbrev pub invariant-loop-self : goal.invariant-loop-self
invariant-loop-self g l = Turns l.fn.workers l.fn.self l.self

abbrev pub decreases-loop-self : goal.decreases-loop-self
decreases-loop-self g l = suc (most_entries (rules_of l.self.book.setup)) - length l.self.book.entries
