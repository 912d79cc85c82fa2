-- What its role could do.
use Rattle.std.proofs.Common.{◌≡◌, ◌++◌, refl, sym, subst}
use Rattle.std.specs.Prelude.{IfOk}
use Rattle.rcv_accept.specs.Accepted.{IsAcceptedProtocol}
use Rattle.rcv_session.specs.Session.{SessionView}
use Rattle.rcv_judge.specs.Could.{IsCould}
use Rattle.rcv_replay.specs.declared.replayed.Replayed.TheVariants.{WrongEntry}
use Rattle.rcv_replay.specs.Lines.{wrong_line}
use Rattle.rcv_diagnosis.specs.Diagnosing.{IsWrongEntry}
use Rattle.rcv_diagnosis.specs.Telling.{entry_text}
use Rattle.rcv_diagnosis.specs.Making.{IsShown}
use Rattle.rcv_diagnosis.proofs.Saying.{made}
use Rattle.rcv_diagnosis.proofs.Showing.{is_shown}
use Rattle.rcv_diagnosis.proofs.journal.of_entry.Goals as goal

pub wrong_entry-requires-clause-shown : goal.wrong_entry-requires-clause-shown
wrong_entry-requires-clause-shown c =
    let plain : IsAcceptedProtocol c.args.book.now.setup.protocol = subst (λ (s : SessionView). IsAcceptedProtocol s.protocol) c.setup-setup.ensures c.protocol-protocol.ensures.accepted in
    subst (λ (s : SessionView). IsShown s c.could_do-could.result) (sym c.setup-setup.ensures)
    (is_shown c.args.book.now plain c.entries-entries.ensures.legal c.role_of.result c.could_do-could.result c.could_do-could.ensures)

pub returns : goal.returns
returns c =
    made (IsWrongEntry c.args.book.now c.args.written c.args.number c.args.entry.now) c.wrong_entry.result (WrongEntry c.args.number)
    (entry_text c.args.book.now.setup c.args.written c.args.number c.args.entry.now c.could_do-could.result)
    (refl, (c.could_do-could.result, subst (λ r. IsCould c.args.book.now r c.could_do-could.result) c.role_of.ensures c.could_do-could.ensures, refl))
    c.wrong_entry.ensures.finding
    (subst (λ (s : SessionView). IfOk c.wrong_entry.result (λ answer. answer.bytes.items ≡ wrong_line c.args.number ++ entry_text s c.args.written c.args.number c.args.entry.now c.could_do-could.result)) c.setup-setup.ensures c.wrong_entry.ensures.bytes)
