-- The step that it makes, or the message that it awaits.
use Rattle.std.proofs.Common.{subst}
use Rattle.rcv_accept.specs.Accepted.{IsAcceptedProtocol}
use Rattle.rcv_session.specs.Session.{SessionView}
use Rattle.rcv_judge.proofs.Doing.{acts, awaits}
use Rattle.rcv_judge.proofs.could.receiving.Goals as goal

pub returns-in-Some : goal.returns-in-Some
returns-in-Some c =
    let plain : IsAcceptedProtocol c.args.book.now.setup.protocol = subst (λ (s : SessionView). IsAcceptedProtocol s.protocol) c.setup.ensures c.protocol-protocol.ensures.accepted in
    acts c.args.book.now plain c.args.role c.in-Some.entry c.in-Some.ensures

pub returns-in-None : goal.returns-in-None
returns-in-None c =
    let plain : IsAcceptedProtocol c.args.book.now.setup.protocol = subst (λ (s : SessionView). IsAcceptedProtocol s.protocol) c.setup.ensures c.protocol-protocol.ensures.accepted in
    awaits c.args.book.now plain c.entries-entries.ensures.legal c.args.role c.args.sender c.requires.free c.requires.next c.requires.other c.in-None.ensures
