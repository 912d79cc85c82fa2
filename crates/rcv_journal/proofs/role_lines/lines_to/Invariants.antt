use Rattle.std.proofs.Common.{◌≡◌, length}
use Rattle.rcv_session.specs.Session.{rules_of}
use Rattle.rcv_core.specs.Book.{state_of}
use Rattle.rcv_journal.proofs.RoleLines.{Each}
use Rattle.rcv_journal.proofs.role_lines.lines_to.Given as goal

abbrev pub invariant-loop-role : goal.invariant-loop-role
invariant-loop-role l =
    record {
      all : length l.lines.items ≡ l.role;
      each : Each (rules_of l.book.setup) (state_of l.book) l.lines.items;
    }
