-- The roles of the lines are declared.
use Rattle.std.proofs.lemmas.Result.{IfOk-weaker}
use Rattle.rcv_core.specs.Book.{state_of}
use Rattle.rcv_journal.proofs.RoleLines.{have_roles}
use Rattle.rcv_journal.proofs.role_lines.lines_of.Goals as goal

pub returns-clause-declared : goal.returns-clause-declared
returns-clause-declared c =
    IfOk-weaker c.lines_to.result _ _ (λ lines are. have_roles c.args.book.now.setup (state_of c.args.book.now) lines.items are) c.lines_to.ensures
