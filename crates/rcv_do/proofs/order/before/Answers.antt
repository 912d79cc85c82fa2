use Rattle.rcv_do.proofs.Under.{front_at, not_taken}
use Rattle.rcv_do.proofs.order.before.Goals as goal

pub returns-then-order-index-clause-some : goal.returns-then-order-index-clause-some
returns-then-order-index-clause-some c = front_at c.args.order.now c.loop-index.index c.args.place _ c.loop-index-test.true c.if-order-index.true

pub loop-index-preserved : goal.loop-index-preserved
loop-index-preserved c = not_taken c.args.order.now c.loop-index.index c.args.place _ c.loop-index-test.true c.if-order-index.false c.loop-index.invariant
