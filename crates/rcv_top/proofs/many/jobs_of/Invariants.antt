use Rattle.rcv_top.specs.Sharing.{AreJobsOf}
use Rattle.rcv_top.proofs.many.jobs_of.Given as goal

abbrev pub invariant-loop-index : goal.invariant-loop-index
invariant-loop-index l = AreJobsOf l.json l.prepared l.index l.jobs.items
