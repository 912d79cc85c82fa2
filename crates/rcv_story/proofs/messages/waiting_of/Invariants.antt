-- The messages that wait, of the Sends so far.
use Rattle.rcv_session.specs.Session.{net_for}
use Rattle.rcv_story.proofs.Dropping.{HasWaiting}
use Rattle.rcv_story.proofs.messages.waiting_of.Given as goal

abbrev pub invariant-loop-place : goal.invariant-loop-place
invariant-loop-place l = HasWaiting (net_for l.record.setup) l.record.entries l.place l.waiting.items
