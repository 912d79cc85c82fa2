use Rattle.std.proofs.Common.{◌-◌, suc, length}
use Rattle.rcv_session.specs.Session.{rules_of}
use Rattle.rcv_core.specs.Book.{most_entries}
use Rattle.rcv_super.proofs.Turning.{StepsAlone}
use Rattle.rcv_super.proofs.alone.finish_alone.Given as goal

abbrev pub invariant-loop-behind : goal.invariant-loop-behind
invariant-loop-behind g l = StepsAlone l.fn.book l.book l.skip

abbrev pub decreases-loop-behind : goal.decreases-loop-behind
decreases-loop-behind g l = suc (most_entries (rules_of l.book.setup)) - length l.book.entries
