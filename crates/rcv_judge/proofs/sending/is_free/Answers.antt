-- Neither crashed nor due, and below the limit.
use Rattle.std.proofs.Common.{refl, ◌∙◌, ap, subst}
use Rattle.std.specs.Prelude.{nat_lt}
use Rattle.rcv_accept.specs.Accepted.{IsAcceptedProtocol}
use Rattle.rcv_session.specs.Session.{SessionView, rules_of}
use Rattle.rcv_core.specs.Book.{state_of}
use Rattle.rcv_core.proofs.Books.{free_by}
use Rattle.rcv_judge.proofs.Sends.{running}
use Rattle.rcv_judge.proofs.sending.is_free.Goals as goal

pub returns : goal.returns
returns c =
    let plain : IsAcceptedProtocol c.args.book.now.setup.protocol = subst (λ (s : SessionView). IsAcceptedProtocol s.protocol) c.setup-setup.ensures c.protocol-protocol.ensures.accepted in
    free_by (rules_of c.args.book.now.setup) (state_of c.args.book.now) c.args.role c.raw.result c.limit.result (nat_lt c.raw.result c.limit.result) c.requires
    (running c.args.book.now plain c.entries-entries.ensures.legal c.args.role c.requires (λ yes. let t = c.crashed.ensures.1 yes in let f = c.if-crashed.false in absurd (cc)))
    (λ yes. let t = c.due.ensures.1 yes in let f = c.if-due.false in absurd (cc))
    c.raw.ensures (c.limit.ensures.value ∙ ap (λ (s : SessionView). (rules_of s).limit) c.setup-setup.ensures) refl
