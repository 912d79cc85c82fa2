-- One end goes back.
use Rattle.rcv_role.proofs.Meeting.{has_rewound_alone}
use Rattle.rcv_role.proofs.cell.Cell.rewind_alone_from.Goals as goal

pub returns : goal.returns
returns c = has_rewound_alone c.self.inside.part c.self.inside.posts.items c.self.inside.inboxes.items c.rewind_alone_at.new.inboxes.items c.args.self.now c.role.result c.args.sender c.slot-at.result c.args.keep c.self.view_is c.role.ensures c.slot-at.ensures c.rewind_alone_at.ensures.others c.rewind_alone_at.ensures.received
