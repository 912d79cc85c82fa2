-- The ends of one channel go back.
use Rattle.rcv_session.specs.Session.{rules_of}
use Rattle.rcv_role.proofs.Meeting.{inbox_ends, post_ends, have_rewound}
use Rattle.rcv_role.proofs.cell.Cell.rewind_from.Goals as goal

pub invariant_of-self : goal.invariant_of-self
invariant_of-self c = inbox_ends (rules_of c.self.inside.part.setup) c.self.inside.part.role c.self.inside.posts.items c.self.inside.inboxes.items c.rewind_at.new.inboxes.items c.slot-at.result c.self.invariant c.rewind_at.ensures.other_inboxes (λ d. (c.rewind_at.ensures.rewound d).inbox_stays)

pub invariant_of-sender : goal.invariant_of-sender
invariant_of-sender c = post_ends (rules_of c.sender.inside.part.setup) c.sender.inside.part.role c.sender.inside.posts.items c.rewind_at.new.posts.items c.sender.inside.inboxes.items c.slot-to.result c.sender.invariant c.rewind_at.ensures.other_posts (λ d. (c.rewind_at.ensures.rewound d).post_stays)

pub returns : goal.returns
returns c = have_rewound c.self.inside.part c.self.inside.posts.items c.self.inside.inboxes.items c.args.self.now c.sender.inside.part c.sender.inside.posts.items c.sender.inside.inboxes.items c.args.sender.now c.role.result c.role-2.result c.role-3.result c.role-4.result c.slot-at.result c.slot-to.result c.self.view_is c.sender.view_is c.role.ensures c.role-2.ensures c.slot-at.ensures c.role-3.ensures c.role-4.ensures c.slot-to.ensures c.rewind_at.new.posts.items c.rewind_at.new.inboxes.items c.rewind_at.ensures.other_posts c.rewind_at.ensures.other_inboxes c.args.keep c.args.drop_from c.rewind_at.ensures.rewound
