-- The messages that Recovers drop, of the Sends so far.
use Rattle.rcv_session.specs.Session.{net_for}
use Rattle.rcv_story.proofs.Dropping.{HasDropped}
use Rattle.rcv_story.proofs.messages.dropped_of.Given as goal

abbrev pub invariant-loop-place : goal.invariant-loop-place
invariant-loop-place l = HasDropped (net_for l.record.setup) l.record.entries l.place l.dropped.items
