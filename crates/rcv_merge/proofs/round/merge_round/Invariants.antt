use Rattle.rcv_merge.specs.Merge.{AreStamps, lent_logs}
use Rattle.rcv_merge.proofs.Merging.{IsMerging, left_of}
use Rattle.rcv_merge.proofs.round.merge_round.Given as goal

abbrev pub invariant-loop-front : goal.invariant-loop-front
invariant-loop-front l = IsMerging (lent_logs l.logs) l.heads l.merged.items × AreStamps (lent_logs l.logs) l.heads l.stamps

abbrev pub decreases-loop-front : goal.decreases-loop-front
decreases-loop-front l = left_of (lent_logs l.logs) l.heads
