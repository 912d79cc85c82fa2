-- Which messages the first arrows receive, and which of them receive one again.
use Rattle.rcv_session.specs.Session.{net_for}
use Rattle.rcv_story.proofs.Receiving.{HasAgain, HasReceived}
use Rattle.rcv_story.proofs.receipts.again_of.Given as goal

abbrev pub invariant-loop-arrow : goal.invariant-loop-arrow
invariant-loop-arrow l =
    HasReceived l.record.entries l.arrows l.arrow-index l.received.items
    × HasAgain (net_for l.record.setup) l.record.entries l.arrows l.arrow-index l.again.items
