use Rattle.std.proofs.Common.{subst}
use Rattle.rcv_module.specs.Refusing.{AreCallable, IsSmall}
use Rattle.rcv_do.specs.Code.{IsCallOrder}
use Rattle.rcv_do.proofs.answer.order_or_refusal.Goals as goal

pub returns : goal.returns
returns c = (
  (subst AreCallable c.of-parts.ensures c.in_ok-order.ensures.callable, subst IsSmall c.of-parts.ensures c.in_ok-small_or_fault.ensures),
  subst (λ ps. IsCallOrder ps c.in_ok-order.order.items) c.of-parts.ensures c.in_ok-order.ensures,
)
