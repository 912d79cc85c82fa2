-- Two cells that meet tell what they told.
use Rattle.rcv_session.specs.Session.{rules_of}
use Rattle.rcv_role.proofs.Meeting.{inbox_ends, post_ends, have_met}
use Rattle.rcv_role.proofs.cell.Cell.meet_from.Goals as goal

pub invariant_of-self : goal.invariant_of-self
invariant_of-self c = inbox_ends (rules_of c.self.inside.part.setup) c.self.inside.part.role c.self.inside.posts.items c.self.inside.inboxes.items c.meet_at.new.inboxes.items c.slot-at.result c.self.invariant c.meet_at.ensures.other_inboxes (λ d. (c.meet_at.ensures.inbox d).stays)

pub invariant_of-sender : goal.invariant_of-sender
invariant_of-sender c = post_ends (rules_of c.sender.inside.part.setup) c.sender.inside.part.role c.sender.inside.posts.items c.meet_at.new.posts.items c.sender.inside.inboxes.items c.slot-to.result c.sender.invariant c.meet_at.ensures.other_posts (λ d. (c.meet_at.ensures.post d).stays)

pub returns-clause-met : goal.returns-clause-met
returns-clause-met c = have_met c.self.inside.part c.self.inside.posts.items c.self.inside.inboxes.items c.args.self.now c.sender.inside.part c.sender.inside.posts.items c.sender.inside.inboxes.items c.args.sender.now c.role.result c.role-2.result c.role-3.result c.role-4.result c.slot-at.result c.slot-to.result c.self.view_is c.sender.view_is c.role.ensures c.role-2.ensures c.slot-at.ensures c.role-3.ensures c.role-4.ensures c.slot-to.ensures c.meet_at.new.posts.items c.meet_at.new.inboxes.items c.meet_at.ensures.other_posts c.meet_at.ensures.other_inboxes c.meet_at.result c.meet_at.ensures.inbox c.meet_at.ensures.post c.meet_at.ensures.through c.meet_at.ensures.begins c.meet_at.ensures.held c.meet_at.ensures.inbox_knows c.meet_at.ensures.post_knows
