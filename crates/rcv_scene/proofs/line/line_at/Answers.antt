-- What a journal names is declared, and what is written of its entry is the entry's line.
use Rattle.std.proofs.Common.{◌≡◌, Some, length, slice_get, refl, sym, ◌∙◌, ap, subst}
use Rattle.std.proofs.lemmas.Option.{slice_get_read}
use Rattle.std.proofs.lemmas.Result.{IfOk-weaker}
use Rattle.rcv_session.specs.Session.{SessionView}
use Rattle.rcv_journal.specs.JournalText.{IsNamed}
use Rattle.rcv_fates.specs.Record.{journal_of}
use Rattle.rcv_scene.specs.Told.{bare_line, IsLineAt}
use Rattle.rcv_scene.proofs.Lines.{is_line, no_line, past_end}
use Rattle.rcv_scene.proofs.line.line_at.Goals as goal

pub line_of-requires : goal.line_of-requires
line_of-requires c =
    let book = journal_of c.args.record.now in
    let entry = c.in-Some.entry.now in
    let found = c.in-Some.ensures.lookup in
    let read = slice_get_read c.entries.result.now (length c.entries.result.now) c.args.at entry refl found.3.0 found.1 in
    let here : slice_get book.entries c.args.at ≡ Some entry = subst (λ l. slice_get l c.args.at ≡ Some entry) c.entries.ensures.value read in
    subst (λ (s : SessionView). IsNamed s entry) (sym c.setup.ensures)
    (c.entries.ensures.is.sound.named c.args.at entry here)

pub returns-in-Some : goal.returns-in-Some
returns-in-Some c =
    let book = journal_of c.args.record.now in
    let entry = c.in-Some.entry.now in
    let found = c.in-Some.ensures.lookup in
    let read = slice_get_read c.entries.result.now (length c.entries.result.now) c.args.at entry refl found.3.0 found.1 in
    let here : slice_get book.entries c.args.at ≡ Some entry = subst (λ l. slice_get l c.args.at ≡ Some entry) c.entries.ensures.value read in
    IfOk-weaker c.line_of.result (λ line. line.items ≡ bare_line c.setup.result.now entry) (λ line. IsLineAt book c.args.at line.items)
    (λ line is. is_line book c.args.at entry line.items here (is ∙ ap (λ (s : SessionView). bare_line s entry) c.setup.ensures))
    c.line_of.ensures

pub returns-in-None : goal.returns-in-None
returns-in-None c =
    no_line (journal_of c.args.record.now) c.args.at c.new.result.items
    (past_end c.entries.result.now c.args.record.now.entries c.args.at c.entries.ensures.value c.in-None.ensures.lookup.3)
