-- By the first closing line that is wrong, or the picture.
use Rattle.std.proofs.Common.{rules, List, ap, ◌∙◌, subst}
use Rattle.rcv_journal.specs.declared.line.RoleLine.{RoleLine}
use Rattle.rcv_journal.specs.Recorded.{JournalView}
use Rattle.rcv_look.specs.Drawing.{IsJournalDrawing}
use Rattle.rcv_model.specs.Journal.{reading}
use Rattle.rcv_session.specs.Session.{rules_of}
use Rattle.rcv_judge.specs.Closing.{IsFirstWrongClosing}
use Rattle.rcv_replay.proofs.Judging.{at_none, at_some}
use Rattle.rcv_look.proofs.Journals.{drawn_said, misclosed_said}
use Rattle.rcv_look.proofs.journal.close.Goals as goal

pub returns-in-Some : goal.returns-in-Some
returns-in-Some c =
    let rules_are = rules_of c.args.book.now.setup in
    misclosed_said c.illegal_closing.result c.args.book.now.setup c.args.journal.now c.args.book.now.entries c.args.written c.in-Some.number _
    c.requires.entries c.requires.legal
    (at_some (IsFirstWrongClosing rules_are (reading rules_are c.args.book.now.entries) c.args.journal.now.roles c.args.journal.now.limited) c.in_ok-wrong.wrong c.in-Some.number c.in-Some.is c.in_ok-wrong.ensures.wrong)
    (search rules)
    c.illegal_closing.ensures.status c.illegal_closing.ensures.bytes

pub returns-in_ok-draw_book-in-None : goal.returns-in_ok-draw_book-in-None
returns-in_ok-draw_book-in-None c = drawn_said c.args.book.now.setup c.args.journal.now c.args.book.now.entries c.args.written c.in_ok-draw_book-in-None.field-0.items c.requires.entries c.requires.legal (at_none c.in_ok-wrong.wrong c.in-None.is c.in_ok-wrong.ensures.right)
    (subst (λ (l : List RoleLine). IsJournalDrawing c.args.book.now.setup c.args.book.now.entries l c.in_ok-draw_book-in-None.field-0.items) (c.as_slice.ensures.value ∙ ap (λ (v : JournalView). v.roles) c.journal.view_is) c.in_ok-draw_book-in-None.ensures)
