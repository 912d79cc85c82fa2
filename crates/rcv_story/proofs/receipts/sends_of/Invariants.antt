-- The Sends of the Recvs of the first arrows.
use Rattle.rcv_session.specs.Session.{net_for}
use Rattle.rcv_story.proofs.Receiving.{HasSends}
use Rattle.rcv_story.proofs.receipts.sends_of.Given as goal

abbrev pub invariant-loop-arrow : goal.invariant-loop-arrow
invariant-loop-arrow l = HasSends (net_for l.record.setup) l.record.entries l.arrows l.arrow-index l.sends.items
