-- Crashed, due, done, or none of these.
use Rattle.std.proofs.Common.{refl, subst}
use Rattle.rcv_accept.specs.Accepted.{IsAcceptedProtocol}
use Rattle.rcv_session.specs.Session.{SessionView}
use Rattle.rcv_tree.specs.declared.entry.Entry.TheVariants.{Crash}
use Rattle.rcv_judge.proofs.Doing.{makes, recovers, is_done}
use Rattle.rcv_judge.proofs.could.could_do.Goals as goal

pub returns-then-crashed : goal.returns-then-crashed
returns-then-crashed c =
    let plain : IsAcceptedProtocol c.args.book.now.setup.protocol = subst (λ (s : SessionView). IsAcceptedProtocol s.protocol) c.setup.ensures c.protocol-protocol.ensures.accepted in
    recovers c.args.book.now plain c.args.role c.recovery_of.result c.recovery_of.ensures

pub returns-then-due : goal.returns-then-due
returns-then-due c =
    let plain : IsAcceptedProtocol c.args.book.now.setup.protocol = subst (λ (s : SessionView). IsAcceptedProtocol s.protocol) c.setup.ensures c.protocol-protocol.ensures.accepted in
    makes c.args.book.now plain c.args.role (Crash c.args.role) refl (c.requires, c.due.ensures.0 c.if-due.true)

pub running-requires-clause-calm : goal.running-requires-clause-calm
running-requires-clause-calm c = λ yes. let t = c.crashed.ensures.1 yes in let f = c.if-crashed.false in absurd (cc)

pub running-requires-clause-idle : goal.running-requires-clause-idle
running-requires-clause-idle c = λ yes. let t = c.due.ensures.1 yes in let f = c.if-due.false in absurd (cc)

pub returns-in-None : goal.returns-in-None
returns-in-None c =
    is_done c.args.book.now c.args.role (λ yes. let t = c.crashed.ensures.1 yes in let f = c.if-crashed.false in absurd (cc)) (λ yes. let t = c.due.ensures.1 yes in let f = c.if-due.false in absurd (cc)) c.in-None.ensures
