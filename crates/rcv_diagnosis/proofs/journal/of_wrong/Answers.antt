-- Those before the first wrong entry are legal.
use Rattle.std.proofs.Common.{◌+◌, List, length, take, get_or, refl, ◌∙◌, ap, subst}
use Rattle.std.proofs.lemmas.Option.{slice_get_read}
use Rattle.rcv_tree.specs.declared.entry.Entry.{Entry}
use Rattle.rcv_session.specs.Session.{rules_of}
use Rattle.rcv_journal.specs.Recorded.{JournalView}
use Rattle.rcv_judge.specs.Judged.{IsFirstWrong}
use Rattle.rcv_diagnosis.specs.Making.{book_of}
use Rattle.rcv_diagnosis.proofs.Judged.{none_before, entry_found}
use Rattle.rcv_diagnosis.proofs.journal.of_wrong.Goals as goal

pub unreachable-requires : goal.unreachable-requires
unreachable-requires c =
    let same = c.as_slice-entries.ensures.value ∙ ap (λ (v : JournalView). v.entries) c.journal.view_is in
    none_before c.args.setup.now c.args.journal.now.entries c.args.number c.in-Err-Entry.field-0-0 c.requires.wrong
    (subst (λ (es : List Entry). IsFirstWrong (rules_of c.args.setup.now) (take c.args.number es) c.in-Err-Entry.field-0-0) same (c.in-Err-Entry.ensures.wrong c.in-Err-Entry.field-0-0 c.in-Err-Entry.field-0-is))

pub returns-in-Ok : goal.returns-in-Ok
returns-in-Ok c =
    let same = c.as_slice-entries.ensures.value ∙ ap (λ (v : JournalView). v.entries) c.journal.view_is in
    let at = slice_get_read c.args.journal.now.entries (length c.args.journal.now.entries) c.args.number c.index-entries-number.result refl c.requires.wrong.inside (c.index-entries-number.is ∙ ap (λ (es : List Entry). get_or es c.args.number c.index-entries-number.result) same) in
    entry_found c.of_entry.result c.args.setup.now c.args.journal.now c.args.written c.in-Ok.book c.args.number (c.args.number + 1) c.index-entries-number.result
    (c.in-Ok.ensures.ok ∙ ap (λ (es : List Entry). book_of c.args.setup.now (take c.args.number es)) same) refl at c.requires.wrong c.of_entry.ensures
