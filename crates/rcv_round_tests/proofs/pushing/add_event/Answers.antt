-- The point of an event that may come is one of the text.
use Rattle.std.proofs.Common.{◌≤◌, subst, sym}
use Rattle.rcv_model.specs.Journal.{place}
use Rattle.rcv_accept.specs.Accepted.{IsAcceptedProtocol}
use Rattle.rcv_session.specs.Session.{SessionView, net_for}
use Rattle.rcv_core.specs.Book.{state_of}
use Rattle.rcv_core.proofs.Books.{of_next}
use Rattle.rcv_core.proofs.Events.{next_event}
use Rattle.rcv_round_tests.proofs.pushing.add_event.Goals as goal

pub receive-changed-requires-clause-first : goal.receive-changed-requires-clause-first
receive-changed-requires-clause-first c =
    let accepted = subst (λ (s : SessionView). IsAcceptedProtocol s.protocol) c.setup-setup.ensures c.protocol-protocol.ensures.accepted in
    let next = next_event c.args.book.now c.args.event.now.dir c.args.event.now c.requires in
    (of_next c.args.book.now.setup c.args.event.now.role (place (state_of c.args.book.now) c.args.event.now.role) c.args.event.now.point accepted next.next).first

pub receive-changed-requires-clause-last : goal.receive-changed-requires-clause-last
receive-changed-requires-clause-last c =
    let accepted = subst (λ (s : SessionView). IsAcceptedProtocol s.protocol) c.setup-setup.ensures c.protocol-protocol.ensures.accepted in
    let next = next_event c.args.book.now c.args.event.now.dir c.args.event.now c.requires in
    subst (λ (s : SessionView). c.args.event.now.point ≤ (net_for s).count) (sym c.setup-setup.ensures)
    (of_next c.args.book.now.setup c.args.event.now.role (place (state_of c.args.book.now) c.args.event.now.role) c.args.event.now.point accepted next.next).last
