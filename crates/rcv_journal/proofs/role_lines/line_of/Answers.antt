-- The word follows from what the book says of the role.
use Rattle.std.proofs.Common.{refl, sym, ◌∙◌, ap, subst}
use Rattle.rcv_session.specs.Session.{rules_of}
use Rattle.rcv_core.specs.Book.{state_of}
use Rattle.rcv_journal.specs.Lines.{IsWordOf}
use Rattle.rcv_journal.proofs.RoleLines.{is_word}
use Rattle.rcv_journal.proofs.role_lines.line_of.Goals as goal

pub returns : goal.returns
returns c =
    record {
      role = refl;
      kept = c.kept.ensures;
      raw = c.raw-raw.ensures;
      word = subst (IsWordOf (rules_of c.args.book.now.setup) (state_of c.args.book.now) c.args.role) (sym c.word_of.ensures) (is_word (rules_of c.args.book.now.setup) (state_of c.args.book.now) c.args.role c.done.result c.raw-raw.result c.limit.result (c.limit.ensures.value ∙ ap (λ v. (rules_of v).limit) c.setup.ensures) c.raw-raw.ensures c.done.ensures);
    }
