-- Each entry may come, or the first that can't.
use Rattle.std.proofs.Common.{List, ◌∙◌, ap, subst}
use Rattle.rcv_tree.specs.declared.entry.Entry.{Entry}
use Rattle.rcv_session.specs.Session.{SessionView, rules_of}
use Rattle.rcv_core.specs.Book.{BookView}
use Rattle.rcv_journal.specs.Recorded.{JournalView}
use Rattle.rcv_judge.specs.Judged.{IsFirstWrong}
use Rattle.rcv_diagnosis.specs.Diagnosing.{IsOfJournal}
use Rattle.rcv_diagnosis.proofs.Saying.{Answers}
use Rattle.rcv_diagnosis.proofs.journal.of_journal.Goals as goal

pub of_wrong-requires-clause-wrong : goal.of_wrong-requires-clause-wrong
of_wrong-requires-clause-wrong c =
    subst (λ (es : List Entry). IsFirstWrong (rules_of c.args.setup.now) es c.in-Err-Entry.number) (c.as_slice.ensures.value ∙ ap (λ (v : JournalView). v.entries) c.journal.view_is)
    (c.in-Err-Entry.ensures.wrong c.in-Err-Entry.number c.in-Err-Entry.field-0-is)

pub returns-in-Ok : goal.returns-in-Ok
returns-in-Ok c = subst (λ (s : SessionView). Answers (IsOfJournal s c.args.journal.now c.args.written) c.of_legal.result) (ap (λ (b : BookView). b.setup) c.in-Ok.ensures.ok) c.of_legal.ensures
