-- A message comes from its inbox, and the cell goes on by it; or the inbox is empty.
use Rattle.std.proofs.Common.{rules, ◌≡◌, None}
use Rattle.rcv_role.proofs.Receiving.{recv_got, received_ends, received_ends_more, received_waits, received_waiting, received_moves, received_moved, message_sender, message_stamp, own_recv, some_end}
use Rattle.rcv_role.proofs.cell.Cell.poll_recv.Goals as goal

pub receive_from-requires-clause-got : goal.receive_from-requires-clause-got
receive_from-requires-clause-got c = recv_got c.self.inside.part c.self.inside.posts.items c.self.inside.inboxes.items c.args.self.now c.args.from c.role.result c.slot-at.result c.args.offered.now c.self.view_is c.self.invariant c.requires.settled c.requires.receives c.role.ensures c.slot-at.ensures c.known.ensures.few c.requires.below

pub invariant_of-self : goal.invariant_of-self
invariant_of-self c = received_ends c.self.inside.part c.self.inside.posts.items c.self.inside.inboxes.items c.args.self.now c.args.from c.role.result c.slot-at.result c.args.offered.now c.self.view_is c.self.invariant c.requires.settled c.requires.receives c.role.ensures c.slot-at.ensures c.receive_from.new.inboxes.items c.receive_from.result c.receive_from.ensures.others c.receive_from.ensures.received

pub returns-in_default-clause-polled : goal.returns-in_default-clause-polled
returns-in_default-clause-polled c =
    let none : c.receive_from.result ≡ None = search rules in
    received_waiting c.self.inside.part c.self.inside.posts.items c.self.inside.inboxes.items c.args.self.now c.args.from c.role.result c.slot-at.result c.args.offered.now c.self.view_is c.self.invariant c.requires.settled c.requires.receives c.role.ensures c.slot-at.ensures c.receive_from.new.inboxes.items c.receive_from.result c.receive_from.ensures.others c.receive_from.ensures.received c.requires.calm c.requires.offers c.requires.some c.requires.below none

pub returns-in_default-clause-goes : goal.returns-in_default-clause-goes
returns-in_default-clause-goes c =
    let none : c.receive_from.result ≡ None = search rules in
    received_waits c.self.inside.part c.self.inside.posts.items c.self.inside.inboxes.items c.args.self.now c.args.from c.role.result c.slot-at.result c.args.offered.now c.self.view_is c.self.invariant c.requires.settled c.requires.receives c.role.ensures c.slot-at.ensures c.receive_from.new.inboxes.items c.receive_from.result c.receive_from.ensures.others c.receive_from.ensures.received none c.known.ensures.strangers

pub got-event-requires-clause-sender : goal.got-event-requires-clause-sender
got-event-requires-clause-sender c = message_sender c.self.inside.part c.self.inside.posts.items c.self.inside.inboxes.items c.args.self.now c.args.from c.role.result c.slot-at.result c.args.offered.now c.self.view_is c.self.invariant c.requires.settled c.requires.receives c.role.ensures c.slot-at.ensures c.receive_from.new.inboxes.items c.receive_from.result c.receive_from.ensures.others c.receive_from.ensures.received c.in-Some.message c.in-Some.is (some_end c.self.inside.part c.self.inside.posts.items c.self.inside.inboxes.items c.args.self.now c.args.from c.role.result c.slot-at.result c.args.offered.now c.self.view_is c.self.invariant c.requires.settled c.requires.receives c.role.ensures c.slot-at.ensures)

pub got-event-requires-clause-stamp : goal.got-event-requires-clause-stamp
got-event-requires-clause-stamp c = message_stamp c.self.inside.part c.self.inside.posts.items c.self.inside.inboxes.items c.args.self.now c.args.from c.role.result c.slot-at.result c.args.offered.now c.self.view_is c.self.invariant c.requires.settled c.requires.receives c.role.ensures c.slot-at.ensures c.receive_from.new.inboxes.items c.receive_from.result c.receive_from.ensures.others c.receive_from.ensures.received c.in-Some.message c.in-Some.is (some_end c.self.inside.part c.self.inside.posts.items c.self.inside.inboxes.items c.args.self.now c.args.from c.role.result c.slot-at.result c.args.offered.now c.self.view_is c.self.invariant c.requires.settled c.requires.receives c.role.ensures c.slot-at.ensures)

pub add-requires-clause-own : goal.add-requires-clause-own
add-requires-clause-own c = own_recv c.self.inside.part c.self.inside.posts.items c.self.inside.inboxes.items c.args.self.now c.args.from c.role.result c.slot-at.result c.args.offered.now c.self.view_is c.self.invariant c.requires.settled c.requires.receives c.role.ensures c.slot-at.ensures c.receive_from.new.inboxes.items c.receive_from.result c.receive_from.ensures.others c.receive_from.ensures.received c.in-Some.message c.in-Some.is (some_end c.self.inside.part c.self.inside.posts.items c.self.inside.inboxes.items c.args.self.now c.args.from c.role.result c.slot-at.result c.args.offered.now c.self.view_is c.self.invariant c.requires.settled c.requires.receives c.role.ensures c.slot-at.ensures) c.got-event.result c.got-event.ensures.of

pub invariant_of-self-2 : goal.invariant_of-self-2
invariant_of-self-2 c = received_ends_more c.self.inside.part c.self.inside.posts.items c.self.inside.inboxes.items c.args.self.now c.args.from c.role.result c.slot-at.result c.args.offered.now c.self.view_is c.self.invariant c.requires.settled c.requires.receives c.role.ensures c.slot-at.ensures c.receive_from.new.inboxes.items c.receive_from.result c.receive_from.ensures.others c.receive_from.ensures.received c.add.new.self c.got-event.result c.add.ensures

pub returns-clause-polled : goal.returns-clause-polled
returns-clause-polled c = received_moved c.self.inside.part c.self.inside.posts.items c.self.inside.inboxes.items c.args.self.now c.args.from c.role.result c.slot-at.result c.args.offered.now c.self.view_is c.self.invariant c.requires.settled c.requires.receives c.role.ensures c.slot-at.ensures c.receive_from.new.inboxes.items c.receive_from.result c.receive_from.ensures.others c.receive_from.ensures.received c.in-Some.message c.in-Some.is (some_end c.self.inside.part c.self.inside.posts.items c.self.inside.inboxes.items c.args.self.now c.args.from c.role.result c.slot-at.result c.args.offered.now c.self.view_is c.self.invariant c.requires.settled c.requires.receives c.role.ensures c.slot-at.ensures) c.requires.calm c.requires.offers c.requires.some c.requires.below c.add.new.self c.got-event.result c.add.ensures c.got-event.ensures.of

pub returns-clause-goes : goal.returns-clause-goes
returns-clause-goes c = received_moves c.self.inside.part c.self.inside.posts.items c.self.inside.inboxes.items c.args.self.now c.args.from c.role.result c.slot-at.result c.args.offered.now c.self.view_is c.self.invariant c.requires.settled c.requires.receives c.role.ensures c.slot-at.ensures c.receive_from.new.inboxes.items c.receive_from.result c.receive_from.ensures.others c.receive_from.ensures.received c.in-Some.message c.in-Some.is (some_end c.self.inside.part c.self.inside.posts.items c.self.inside.inboxes.items c.args.self.now c.args.from c.role.result c.slot-at.result c.args.offered.now c.self.view_is c.self.invariant c.requires.settled c.requires.receives c.role.ensures c.slot-at.ensures) c.add.new.self c.got-event.result c.add.ensures c.known.ensures.strangers c.got-event.ensures.of c.got-event.ensures.may
