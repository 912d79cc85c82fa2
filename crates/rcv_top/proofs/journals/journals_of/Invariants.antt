use Rattle.rcv_top.specs.Sharing.{AreJournalsOf}
use Rattle.rcv_top.proofs.journals.journals_of.Given as goal

abbrev pub invariant-loop-index : goal.invariant-loop-index
invariant-loop-index l = AreJournalsOf l.jobs l.index l.all
