-- Some role can make an entry.
use Rattle.std.proofs.Common.{◌≡◌, ◌<◌, ◌++◌, inl, refl, sym, subst}
use Rattle.std.specs.Prelude.{IfOk}
use Rattle.rcv_theory.specs.Round.{role_of}
use Rattle.rcv_accept.specs.Accepted.{IsAcceptedProtocol}
use Rattle.rcv_session.specs.Session.{SessionView, roles_of}
use Rattle.rcv_journal.specs.JournalText.{IsDeclared}
use Rattle.rcv_replay.specs.declared.replayed.Replayed.TheVariants.{WrongEnd}
use Rattle.rcv_replay.specs.Lines.{wrong_end_line}
use Rattle.rcv_diagnosis.specs.Diagnosing.{IsWrongEnd}
use Rattle.rcv_diagnosis.specs.Telling.{unfinished_text}
use Rattle.rcv_diagnosis.proofs.Made.{has_maker, not_over}
use Rattle.rcv_diagnosis.proofs.Saying.{made}
use Rattle.rcv_diagnosis.proofs.Showing.{may_is_declared, declared_role}
use Rattle.rcv_diagnosis.proofs.journal.of_unfinished.Goals as goal

pub unfinished-requires-clause-entry : goal.unfinished-requires-clause-entry
unfinished-requires-clause-entry c =
    let plain : IsAcceptedProtocol c.args.book.now.setup.protocol = subst (λ (s : SessionView). IsAcceptedProtocol s.protocol) c.setup-setup.ensures c.protocol-protocol.ensures.accepted in
    subst (λ (s : SessionView). IsDeclared s c.in-Some.entry) (sym c.setup-setup.ensures) (may_is_declared c.args.book.now plain c.entries-entries.ensures.legal c.in-Some.entry c.in-Some.ensures.1.may)

pub unfinished-requires-clause-role : goal.unfinished-requires-clause-role
unfinished-requires-clause-role c =
    let plain : IsAcceptedProtocol c.args.book.now.setup.protocol = subst (λ (s : SessionView). IsAcceptedProtocol s.protocol) c.setup-setup.ensures c.protocol-protocol.ensures.accepted in
    subst (λ (s : SessionView). role_of c.in-Some.entry < roles_of s) (sym c.setup-setup.ensures)
    (declared_role c.args.book.now.setup c.in-Some.entry (may_is_declared c.args.book.now plain c.entries-entries.ensures.legal c.in-Some.entry c.in-Some.ensures.1.may))

pub unreachable-requires : goal.unreachable-requires
unreachable-requires c =
    let plain : IsAcceptedProtocol c.args.book.now.setup.protocol = subst (λ (s : SessionView). IsAcceptedProtocol s.protocol) c.setup-setup.ensures c.protocol-protocol.ensures.accepted in
    let maker = has_maker c.args.book.now plain c.requires in
    c.in-None.ensures maker.0 maker.1 maker.2

pub returns : goal.returns
returns c =
    made (IsWrongEnd c.args.book.now) c.unfinished.result WrongEnd (unfinished_text c.args.book.now.setup c.in-Some.entry)
    (refl, inl (not_over c.args.book.now c.requires, c.in-Some.entry, c.in-Some.ensures, refl))
    c.unfinished.ensures.finding
    (subst (λ (s : SessionView). IfOk c.unfinished.result (λ answer. answer.bytes.items ≡ wrong_end_line ++ unfinished_text s c.in-Some.entry)) c.setup-setup.ensures c.unfinished.ensures.bytes)
