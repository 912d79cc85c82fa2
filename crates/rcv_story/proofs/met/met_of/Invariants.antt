-- Which Sends share their fate with a Recv, by the first arrows.
use Rattle.rcv_session.specs.Session.{net_for}
use Rattle.rcv_story.proofs.Receiving.{HasMet}
use Rattle.rcv_story.proofs.met.met_of.Given as goal

abbrev pub invariant-loop-arrow : goal.invariant-loop-arrow
invariant-loop-arrow l = HasMet (net_for l.record.setup) l.record.entries l.arrows l.undone l.arrow-index l.met.items
