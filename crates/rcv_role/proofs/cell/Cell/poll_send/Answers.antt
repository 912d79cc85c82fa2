-- A Send goes onto its post, and the cell goes on by it; or the post is full.
use Rattle.std.proofs.Common.{rules, ◌≡◌, true, false}
use Rattle.rcv_role.proofs.Sending.{send_passes, send_room, sent_ends, sent_ends_more, sent_waits, sent_waiting, sent_moves, sent_moved}
use Rattle.rcv_role.proofs.cell.Cell.poll_send.Goals as goal

pub send_to-requires-clause-passes : goal.send_to-requires-clause-passes
send_to-requires-clause-passes c = send_passes c.self.inside.part c.sent-event.new.self c.self.inside.posts.items c.self.inside.inboxes.items c.args.self.now c.sent-event.result c.receiver-to.result c.role.result c.slot-at.result c.self.view_is c.self.invariant c.requires.settled c.sent-event.ensures.next c.sent-event.ensures.same c.receiver-to.ensures c.role.ensures c.slot-at.ensures

pub send_to-requires-clause-room : goal.send_to-requires-clause-room
send_to-requires-clause-room c = send_room c.self.inside.part c.sent-event.new.self c.self.inside.posts.items c.self.inside.inboxes.items c.args.self.now c.sent-event.result c.receiver-to.result c.role.result c.slot-at.result c.self.view_is c.self.invariant c.requires.settled c.sent-event.ensures.next c.sent-event.ensures.same c.receiver-to.ensures c.role.ensures c.slot-at.ensures c.known.ensures.few c.requires.below

pub invariant_of-self : goal.invariant_of-self
invariant_of-self c = sent_ends c.self.inside.part c.sent-event.new.self c.self.inside.posts.items c.self.inside.inboxes.items c.args.self.now c.sent-event.result c.receiver-to.result c.role.result c.slot-at.result c.self.view_is c.self.invariant c.requires.settled c.sent-event.ensures.next c.sent-event.ensures.same c.receiver-to.ensures c.role.ensures c.slot-at.ensures c.send_to.new.posts.items c.send_to.result c.send_to.ensures.others c.send_to.ensures.sent

pub returns-then-not-send_to-clause-polled : goal.returns-then-not-send_to-clause-polled
returns-then-not-send_to-clause-polled c =
    let full : c.send_to.result ≡ false = search rules in
    sent_waiting c.self.inside.part c.sent-event.new.self c.self.inside.posts.items c.self.inside.inboxes.items c.args.self.now c.sent-event.result c.receiver-to.result c.role.result c.slot-at.result c.self.view_is c.self.invariant c.requires.settled c.sent-event.ensures.next c.sent-event.ensures.same c.receiver-to.ensures c.role.ensures c.slot-at.ensures c.send_to.new.posts.items c.send_to.result c.send_to.ensures.others c.send_to.ensures.sent c.args.offered.now c.requires.calm c.requires.offers c.requires.some c.requires.below full

pub returns-then-not-send_to-clause-goes : goal.returns-then-not-send_to-clause-goes
returns-then-not-send_to-clause-goes c =
    let full : c.send_to.result ≡ false = search rules in
    sent_waits c.self.inside.part c.sent-event.new.self c.self.inside.posts.items c.self.inside.inboxes.items c.args.self.now c.sent-event.result c.receiver-to.result c.role.result c.slot-at.result c.self.view_is c.self.invariant c.requires.settled c.sent-event.ensures.next c.sent-event.ensures.same c.receiver-to.ensures c.role.ensures c.slot-at.ensures c.send_to.new.posts.items c.send_to.result c.send_to.ensures.others c.send_to.ensures.sent c.args.offered.now c.requires.calm c.requires.offers c.requires.some c.requires.below full c.known.ensures.strangers

pub invariant_of-self-2 : goal.invariant_of-self-2
invariant_of-self-2 c = sent_ends_more c.self.inside.part c.sent-event.new.self c.self.inside.posts.items c.self.inside.inboxes.items c.args.self.now c.sent-event.result c.receiver-to.result c.role.result c.slot-at.result c.self.view_is c.self.invariant c.requires.settled c.sent-event.ensures.next c.sent-event.ensures.same c.receiver-to.ensures c.role.ensures c.slot-at.ensures c.send_to.new.posts.items c.send_to.result c.send_to.ensures.others c.send_to.ensures.sent c.add.new.self c.add.ensures

pub returns-clause-polled : goal.returns-clause-polled
returns-clause-polled c =
    let sent : c.send_to.result ≡ true = search rules in
    sent_moved c.self.inside.part c.sent-event.new.self c.self.inside.posts.items c.self.inside.inboxes.items c.args.self.now c.sent-event.result c.receiver-to.result c.role.result c.slot-at.result c.self.view_is c.self.invariant c.requires.settled c.sent-event.ensures.next c.sent-event.ensures.same c.receiver-to.ensures c.role.ensures c.slot-at.ensures c.send_to.new.posts.items c.send_to.result c.send_to.ensures.others c.send_to.ensures.sent c.args.offered.now c.requires.calm c.requires.offers c.requires.some c.requires.below sent c.add.new.self c.add.ensures

pub returns-clause-goes : goal.returns-clause-goes
returns-clause-goes c =
    let sent : c.send_to.result ≡ true = search rules in
    sent_moves c.self.inside.part c.sent-event.new.self c.self.inside.posts.items c.self.inside.inboxes.items c.args.self.now c.sent-event.result c.receiver-to.result c.role.result c.slot-at.result c.self.view_is c.self.invariant c.requires.settled c.sent-event.ensures.next c.sent-event.ensures.same c.receiver-to.ensures c.role.ensures c.slot-at.ensures c.send_to.new.posts.items c.send_to.result c.send_to.ensures.others c.send_to.ensures.sent c.args.offered.now c.requires.calm c.requires.offers c.requires.some c.requires.below sent c.add.new.self c.add.ensures c.known.ensures.strangers
