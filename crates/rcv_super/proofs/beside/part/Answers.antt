-- Where nobody may run, all stay.
use Rattle.rcv_super.proofs.Besides.{idle_ran}
use Rattle.rcv_super.proofs.beside.part.Goals as goal

pub returns-then-not-some_may_run-clause-beside : goal.returns-then-not-some_may_run-clause-beside
returns-then-not-some_may_run-clause-beside g c = idle_ran c.args.house.now.watch c.args.beside.now.items c.requires.lowered c.requires.ready (c.some_may_run.ensures c.if-not-some_may_run.true)
