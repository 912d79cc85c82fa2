-- The entries of a legal journal are named, and so are the roles of the lines; the lines are the book's.
use Rattle.std.proofs.Common.{◌≡◌, sym, ◌∙◌, ap, subst}
use Rattle.std.proofs.lemmas.Result.{IfOk-weaker}
use Rattle.rcv_accept.specs.Accepted.{IsAcceptedProtocol}
use Rattle.rcv_session.specs.Session.{SessionView}
use Rattle.rcv_journal.specs.JournalText.{AreNamed, HaveRoles}
use Rattle.rcv_journal.proofs.Named.{legal_is_named}
use Rattle.rcv_json.specs.Pieces.{pieces}
use Rattle.rcv_json.proofs.Pieces.{pieces_are}
use Rattle.rcv_json.proofs.journal.json_of.Goals as goal

pub write_journal-requires-clause-entries : goal.write_journal-requires-clause-entries
write_journal-requires-clause-entries c =
    let plain : IsAcceptedProtocol c.args.book.now.setup.protocol = subst (λ (v : SessionView). IsAcceptedProtocol v.protocol) c.setup-setup.ensures c.protocol-protocol.ensures.accepted in
    let named : AreNamed c.args.book.now.setup c.args.book.now.entries = legal_is_named c.args.book.now.setup c.args.book.now.entries plain c.entries.ensures.legal in
    subst (λ v. AreNamed v c.entries.result.now) (sym c.setup-setup.ensures) (subst (AreNamed c.args.book.now.setup) (sym c.entries.ensures.value) named)

pub write_journal-requires-clause-lines : goal.write_journal-requires-clause-lines
write_journal-requires-clause-lines c =
    subst (λ v. HaveRoles v c.as_slice.result.now) (sym c.setup-setup.ensures) (subst (HaveRoles c.args.book.now.setup) (sym c.as_slice.ensures.value) c.in_ok-lines.ensures.declared)

pub returns : goal.returns
returns c =
    let same : pieces c.setup-setup.result.now c.entries.result.now c.as_slice.result.now ≡ pieces c.args.book.now.setup c.args.book.now.entries c.in_ok-lines.lines.items =
    ap (λ v. pieces v c.entries.result.now c.as_slice.result.now) c.setup-setup.ensures
    ∙ ap (λ es. pieces c.args.book.now.setup es c.as_slice.result.now) c.entries.ensures.value
    ∙ ap (pieces c.args.book.now.setup c.args.book.now.entries) c.as_slice.ensures.value in
    let is = pieces_are c.args.book.now.setup c.args.book.now.entries c.in_ok-lines.lines.items in
    IfOk-weaker c.write_journal.result _ _ (λ text e. record { lines = c.in_ok-lines.lines.items; are_lines = c.in_ok-lines.ensures.lines; is_json = e ∙ same ∙ is }) c.write_journal.ensures
