-- By the first of the next points.
use Rattle.std.proofs.Common.{sym, ◌∙◌, ap, subst}
use Rattle.rcv_model.specs.Journal.{place}
use Rattle.rcv_accept.specs.Accepted.{IsAcceptedProtocol}
use Rattle.rcv_session.specs.Session.{SessionView, net_for}
use Rattle.rcv_core.specs.Book.{state_of}
use Rattle.rcv_core.proofs.Books.{IsOfText}
use Rattle.rcv_core.proofs.Picking.{first_in, in_text}
use Rattle.rcv_judge.proofs.Sends.{stands_there, done_there, has_sender}
use Rattle.rcv_judge.proofs.sending.next_sender.Goals as goal

pub returns-in_default : goal.returns-in_default
returns-in_default c =
    let plain : IsAcceptedProtocol c.args.book.now.setup.protocol = subst (λ (s : SessionView). IsAcceptedProtocol s.protocol) c.setup-setup.ensures c.protocol-protocol.ensures.accepted in
    done_there c.args.book.now plain c.entries-entries.ensures.legal c.args.role c.requires c.next_points.result.now c.next_points.ensures c.in_default.len_below

pub sender-requires-clause-first : goal.sender-requires-clause-first
sender-requires-clause-first c =
    let plain : IsAcceptedProtocol c.args.book.now.setup.protocol = subst (λ (s : SessionView). IsAcceptedProtocol s.protocol) c.setup-setup.ensures c.protocol-protocol.ensures.accepted in
    (in_text c.args.book.now.setup plain c.args.role (place (state_of c.args.book.now) c.args.role) c.requires (stands_there c.args.book.now plain c.entries-entries.ensures.legal c.args.role) c.next_points.result.now c.next_points.ensures c.first-item.result (first_in c.next_points.result.now c.first-item.result c.in-len1-up.len_at_least c.first-item.is)).first

pub sender-requires-clause-last : goal.sender-requires-clause-last
sender-requires-clause-last c =
    let plain : IsAcceptedProtocol c.args.book.now.setup.protocol = subst (λ (s : SessionView). IsAcceptedProtocol s.protocol) c.setup-setup.ensures c.protocol-protocol.ensures.accepted in
    (subst (λ (s : SessionView). IsOfText s c.first-item.result) (sym c.setup-setup.ensures) (in_text c.args.book.now.setup plain c.args.role (place (state_of c.args.book.now) c.args.role) c.requires (stands_there c.args.book.now plain c.entries-entries.ensures.legal c.args.role) c.next_points.result.now c.next_points.ensures c.first-item.result (first_in c.next_points.result.now c.first-item.result c.in-len1-up.len_at_least c.first-item.is))).last

pub returns : goal.returns
returns c =
    let plain : IsAcceptedProtocol c.args.book.now.setup.protocol = subst (λ (s : SessionView). IsAcceptedProtocol s.protocol) c.setup-setup.ensures c.protocol-protocol.ensures.accepted in
    has_sender c.args.book.now plain c.entries-entries.ensures.legal c.args.role c.requires c.next_points.result.now c.next_points.ensures c.first-item.result c.sender.result c.in-len1-up.len_at_least c.first-item.is
    (c.sender.ensures ∙ ap (λ (s : SessionView). (net_for s).sender c.first-item.result) c.setup-setup.ensures)
