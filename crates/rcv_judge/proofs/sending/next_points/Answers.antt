-- A role stands at one of its places.
use Rattle.std.proofs.Common.{sym, subst}
use Rattle.rcv_model.specs.Next.{IsPlaceOf, AreNext}
use Rattle.rcv_accept.specs.Accepted.{IsAcceptedProtocol}
use Rattle.rcv_session.specs.Session.{SessionView, net_for}
use Rattle.rcv_judge.proofs.Sends.{stands_there}
use Rattle.rcv_judge.proofs.sending.next_points.Goals as goal

pub next-requires-clause-place : goal.next-requires-clause-place
next-requires-clause-place c =
    let plain : IsAcceptedProtocol c.args.book.now.setup.protocol = subst (λ (s : SessionView). IsAcceptedProtocol s.protocol) c.setup-setup.ensures c.protocol-protocol.ensures.accepted in
    subst (λ (s : SessionView). IsPlaceOf (net_for s) c.args.role c.place.result) (sym c.setup-setup.ensures)
    (subst (IsPlaceOf (net_for c.args.book.now.setup) c.args.role) (sym c.place.ensures) (stands_there c.args.book.now plain c.entries-entries.ensures.legal c.args.role))

pub returns : goal.returns
returns c =
    subst (λ k. AreNext (net_for c.args.book.now.setup) c.args.role k c.next.result.now) c.place.ensures
    (subst (λ (s : SessionView). AreNext (net_for s) c.args.role c.place.result c.next.result.now) c.setup-setup.ensures c.next.ensures)
