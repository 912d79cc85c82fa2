use Rattle.std.proofs.Common.{length}
use Rattle.rcv_do.proofs.Reaching.{AreAlone, AreJoined}
use Rattle.rcv_do.proofs.reach.reached.Given as goal

abbrev pub invariant-loop-place : goal.invariant-loop-place
invariant-loop-place l = AreAlone l.place l.rows.items

abbrev pub invariant-loop-call : goal.invariant-loop-call
invariant-loop-call l = AreJoined l.calls l.fn.count l.call-index 0 l.rows.items

abbrev pub invariant-loop-place-2 : goal.invariant-loop-place-2
invariant-loop-place-2 l = AreJoined l.calls l.fn.count (length l.calls) l.place l.rows.items
