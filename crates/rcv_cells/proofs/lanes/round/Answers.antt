-- The watches are of one fence, and each cell ran with one of them.
use denote.Param.Send.{sendable}
use Rattle.std.proofs.Crossing as std
use Rattle.std.proofs.vec.Vec.TheSendSync as vec
use Rattle.rcv_tree.proofs.entry.Timed.TheSendSync as timed
use Rattle.rcv_tree.proofs.event.Event.TheSendSync as event
use Rattle.rcv_tree.proofs.role.RoleId.TheSendSync as role
use Rattle.rcv_tree.proofs.numbers.Numbers.TheSendSync as numbers
use Rattle.rcv_checkpoint.proofs.tail.Tail.TheSendSync as tail
use Rattle.rcv_mailbox.proofs.post.Post.TheSendSync as post
use Rattle.rcv_mailbox.proofs.inbox.Inbox.TheSendSync as inbox
use Rattle.rcv_core.proofs.Crossing.{setup_sync}
use Rattle.rcv_cells.proofs.Running.{watched_alike, watched_still, have_run, all_go}
use Rattle.rcv_cells.proofs.lanes.round.Goals as goal

pub run_round-requires-clause-alike : goal.run_round-requires-clause-alike
run_round-requires-clause-alike g c κs within = watched_alike c.args.watch.now c.args.watches.now c.requires.watched

pub returns-clause-ran : goal.returns-clause-ran
returns-clause-ran g c =
    have_run c.args.watch.now c.args.watches.now c.args.lanes.now c.run_round.new.places c.requires.lowered
    c.requires.watched c.requires.least c.run_round.ensures.ran

pub returns-clause-go : goal.returns-clause-go
returns-clause-go g c =
    all_go c.args.watch.now c.args.lanes.now c.run_round.new.places
    (have_run c.args.watch.now c.args.watches.now c.args.lanes.now c.run_round.new.places c.requires.lowered
    c.requires.watched c.requires.least c.run_round.ensures.ran)

pub returns-clause-watched : goal.returns-clause-watched
returns-clause-watched g c =
    watched_still c.args.watch.now c.args.watches.now c.run_round.new.tools c.requires.watched
    c.run_round.ensures.like.0 c.run_round.ensures.like.1

pub run_round-requires-send-P : goal.run_round-requires-send-P
run_round-requires-send-P g c κs within =
    search (std.crosses, vec.the_send, timed.the_send, event.the_send, role.the_send, numbers.the_send, tail.the_send, post.the_send, inbox.the_send, setup_sync, sendable) depth 60 fits 20000
