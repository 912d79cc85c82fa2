-- The book's journal is that of the session that the text was taken as.
use Rattle.std.proofs.Common.{sym, subst}
use Rattle.rcv_session.specs.Session.{SessionView}
use Rattle.rcv_input.specs.Input.{IsTaken}
use Rattle.rcv_core.specs.Book.{BookView}
use Rattle.rcv_journal.specs.Lines.{IsTextOf}
use Rattle.rcv_first_calls.proofs.Alone.{Ended, ended, at_end, out_of_memory}
use Rattle.rcv_first_calls.proofs.running.run.Goals as goal

pub text_of-requires : goal.text_of-requires
text_of-requires c =
    let session : SessionView = c.in_ok-setup.setup in
    at_end session c.run_alone.new.self (ended session c.in_ok-book.book c.run_alone.new.self c.in_ok-book.ensures c.run_alone.ensures)

pub returns : goal.returns
returns c =
    let session : SessionView = c.in_ok-setup.setup in
    let e : Ended session c.run_alone.new.self = ended session c.in_ok-book.book c.run_alone.new.self c.in_ok-book.ensures c.run_alone.ensures in (
      session,
      e.journal,
      subst (IsTaken c.args.input.now) (sym c.in_ok-setup.ensures) c.in_ok-taken.ensures.taken,
      e.alone,
      subst (λ (b : BookView). IsTextOf b.setup b.entries c.in_ok-text_of.field-0.items) e.is c.in_ok-text_of.ensures,
    )

pub returns-in_err-book : goal.returns-in_err-book
returns-in_err-book c = out_of_memory c.args.input.now c.from_residual-in_err-book.result _ c.from_residual-in_err-book.ensures.1

pub returns-in_err-text_of : goal.returns-in_err-text_of
returns-in_err-text_of c = out_of_memory c.args.input.now c.from_residual-in_err-text_of.result _ c.from_residual-in_err-text_of.ensures.1
