use Rattle.std.proofs.Common.{◌≡◌}
use Rattle.rcv_accept.proofs.Lists.{NoneBefore}
use Rattle.rcv_guide.proofs.guide.Guide.is_next.Given as goal

abbrev pub invariant-loop-next : goal.invariant-loop-next
invariant-loop-next l = NoneBefore (λ p. p ≡ l.point) l.next-items l.next-index
