use Rattle.rcv_points.proofs.Reaching.{FlagsSoFar}
use Rattle.rcv_points.proofs.reached.reached.Given as goal

abbrev pub invariant-loop-before : goal.invariant-loop-before
invariant-loop-before l = FlagsSoFar l.come.0 l.flags.items l.before
