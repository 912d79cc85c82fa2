-- One journal more.
use Rattle.rcv_top.proofs.Adding.{one_journal_more}
use Rattle.rcv_top.proofs.journals.journals_of.Goals as goal

pub loop-index-preserved : goal.loop-index-preserved
loop-index-preserved c =
    one_journal_more c.args.jobs.now c.loop-index.index c.index-jobs-index.result c.loop-index.all c.add.new.self c.loop-index-test.true c.index-jobs-index.is c.loop-index.invariant c.in_ok-add.ensures
