-- One role more.
use Rattle.std.proofs.Common.{◌+◌, ◌∷◌, [], length, length-append, sym, ◌∙◌, ap, subst}
use Rattle.rcv_session.specs.Session.{rules_of}
use Rattle.rcv_core.specs.Book.{state_of}
use Rattle.rcv_journal.proofs.RoleLines.{Each, one_more_line}
use Rattle.rcv_journal.proofs.role_lines.lines_to.Goals as goal

pub loop-role-preserved : goal.loop-role-preserved
loop-role-preserved c =
    record {
      all = ap length c.in_ok-push.ensures.items ∙ length-append c.loop-role.lines.items (c.line_of.result ∷ []) ∙ ap (λ n. n + 1) c.loop-role.invariant.all;
      each = subst (Each (rules_of c.args.book.now.setup) (state_of c.args.book.now)) (sym c.in_ok-push.ensures.items) (one_more_line (rules_of c.args.book.now.setup) (state_of c.args.book.now) c.loop-role.lines.items c.line_of.result c.loop-role.role c.loop-role.invariant.all c.loop-role.invariant.each c.line_of.ensures);
    }
