use Rattle.rcv_merge.specs.Merge.{AreStampsOf, lent_logs}
use Rattle.rcv_merge.proofs.round.first_stamps.Given as goal

abbrev pub invariant-loop-role : goal.invariant-loop-role
invariant-loop-role l = AreStampsOf (lent_logs l.logs) l.role l.stamps
