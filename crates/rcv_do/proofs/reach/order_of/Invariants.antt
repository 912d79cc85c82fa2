use Rattle.std.proofs.Common.{◌≡◌, []}
use Rattle.rcv_do.proofs.Ordering.{AreSkipped, IsOrdered, open_places}
use Rattle.rcv_do.proofs.reach.order_of.Given as goal

abbrev pub invariant-loop-place : goal.invariant-loop-place
invariant-loop-place l = (l.order.items ≡ []) × AreSkipped l.rows l.listed.items l.place

abbrev pub invariant-loop-place-2 : goal.invariant-loop-place-2
invariant-loop-place-2 l = IsOrdered l.rows l.order.items l.listed.items

abbrev pub decreases-loop-place-2 : goal.decreases-loop-place-2
decreases-loop-place-2 l = open_places l.listed.items
