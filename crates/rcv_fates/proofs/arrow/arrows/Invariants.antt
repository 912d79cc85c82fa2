-- The Sends of each role before the place, and the messages whose Recvs stand before it.
use Rattle.rcv_session.specs.Session.{roles_of, net_for}
use Rattle.rcv_tree.specs.Lists.{lists_in}
use Rattle.rcv_fates.proofs.Joining.{AllSends, AreArrowsTo}
use Rattle.rcv_fates.proofs.arrow.arrows.Given as goal

abbrev pub invariant-loop-place : goal.invariant-loop-place
invariant-loop-place l =
    AllSends (roles_of l.record.setup) l.record.entries l.place (lists_in l.sends.items)
    × AreArrowsTo (net_for l.record.setup) l.record.entries l.place l.arrows.items
