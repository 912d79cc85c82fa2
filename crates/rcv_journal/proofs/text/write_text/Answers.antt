-- The entries of a legal journal are named, and so are the roles of the lines; the lines are the book's.
use Rattle.std.proofs.Common.{◌≡◌, List, sym, ◌∙◌, ap, subst, arith}
use Rattle.rcv_tree.specs.declared.entry.Entry.{Entry}
use Rattle.rcv_accept.specs.Accepted.{IsAcceptedProtocol}
use Rattle.rcv_session.specs.Session.{SessionView}
use Rattle.rcv_journal.specs.declared.line.RoleLine.{RoleLine}
use Rattle.rcv_journal.specs.JournalText.{AreNamed, HaveRoles, journal_text}
use Rattle.rcv_journal.proofs.Named.{legal_is_named}
use Rattle.rcv_journal.proofs.Writing.{wrote, broke}
use Rattle.rcv_journal.proofs.text.write_text.Goals as goal

-- equal parts make one text
same : (s t : SessionView) (es fs : List Entry) (ls ms : List RoleLine) → s ≡ t → es ≡ fs → ls ≡ ms → journal_text s es ls ≡ journal_text t fs ms
same s t es fs ls ms setup entries lines = ap (λ v. journal_text v es ls) setup ∙ ap (λ l. journal_text t l ls) entries ∙ ap (journal_text t fs) lines

pub write_journal-requires-clause-entries : goal.write_journal-requires-clause-entries
write_journal-requires-clause-entries g c =
    let plain : IsAcceptedProtocol c.args.book.now.setup.protocol = subst (λ (v : SessionView). IsAcceptedProtocol v.protocol) c.setup-setup.ensures c.protocol-protocol.ensures.accepted in
    let named : AreNamed c.args.book.now.setup c.args.book.now.entries = legal_is_named c.args.book.now.setup c.args.book.now.entries plain c.entries.ensures.legal in
    subst (λ v. AreNamed v c.entries.result.now) (sym c.setup-setup.ensures) (subst (AreNamed c.args.book.now.setup) (sym c.entries.ensures.value) named)

pub write_journal-requires-clause-lines : goal.write_journal-requires-clause-lines
write_journal-requires-clause-lines g c =
    subst (λ v. HaveRoles v c.as_slice-2.result.now) (sym c.setup-setup.ensures) (subst (HaveRoles c.args.book.now.setup) (sym c.as_slice-2.ensures.value) c.in_ok-lines.ensures.declared)

pub returns-in_err-write_journal-clause-fault : goal.returns-in_err-write_journal-clause-fault
returns-in_err-write_journal-clause-fault g c =
    let text = same _ _ _ _ _ _ c.setup-setup.ensures c.entries.ensures.value c.as_slice-2.ensures.value in
    λ _. broke c.args.book.now.setup c.args.book.now.entries c.in_ok-lines.lines.items c.in_ok-lines.ensures.lines c.in_ok-page.page c.in_ok-page.ensures _ _ _ _ _ text c.in_err-write_journal.ensures.failed

pub returns-in_err-write_journal-clause-later : goal.returns-in_err-write_journal-clause-later
returns-in_err-write_journal-clause-later g c =
    let text = same _ _ _ _ _ _ c.setup-setup.ensures c.entries.ensures.value c.as_slice-2.ensures.value in
    (broke c.args.book.now.setup c.args.book.now.entries c.in_ok-lines.lines.items c.in_ok-lines.ensures.lines c.in_ok-page.page c.in_ok-page.ensures _ _ _ _ _ text c.in_err-write_journal.ensures.failed).later

pub returns-clause-whole : goal.returns-clause-whole
returns-clause-whole g c =
    let text = same _ _ _ _ _ _ c.setup-setup.ensures c.entries.ensures.value c.as_slice-2.ensures.value in
    wrote c.args.book.now.setup c.args.book.now.entries c.in_ok-lines.lines.items c.in_ok-lines.ensures.lines c.in_ok-page.page c.in_ok-page.ensures _ _ _ _ _ text c.in_ok-write_journal.ensures.done

pub returns-clause-later : goal.returns-clause-later
returns-clause-later g c =
    let text = same _ _ _ _ _ _ c.setup-setup.ensures c.entries.ensures.value c.as_slice-2.ensures.value in
    let fine = (wrote c.args.book.now.setup c.args.book.now.entries c.in_ok-lines.lines.items c.in_ok-lines.ensures.lines c.in_ok-page.page c.in_ok-page.ensures _ _ _ _ _ text c.in_ok-write_journal.ensures.done).fine in
    omega (arith, fine)
