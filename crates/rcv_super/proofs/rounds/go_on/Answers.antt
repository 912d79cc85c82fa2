-- Where a role is crashed, the least such one recovers; where none is, a round is made.
use Rattle.rcv_super.proofs.InOrder.{recovered_turn, recovered_failed, round_turn, stayed_turn}
use Rattle.rcv_super.proofs.rounds.go_on.Goals as goal

pub returns-in-Some-clause-turned : goal.returns-in-Some-clause-turned
returns-in-Some-clause-turned g c = recovered_turn c.recover_beside.result c.args.crew.now.workers c.args.house.now.book c.recover_beside.new.house.book c.in-Some.role c.requires.workers.0 c.in-Some.ensures.1 c.recover_beside.ensures.recovered

pub returns-in-Some-clause-failed : goal.returns-in-Some-clause-failed
returns-in-Some-clause-failed g c = recovered_failed c.recover_beside.result c.args.crew.now.workers c.args.house.now.book c.recover_beside.new.house.book c.in-Some.role c.requires.workers.0 c.in-Some.ensures.1 c.recover_beside.ensures.failed

pub returns-in-None-clause-turned : goal.returns-in-None-clause-turned
returns-in-None-clause-turned g c = round_turn c.round_or_step.result c.args.crew.now.workers c.args.house.now.book c.round_or_step.new.house.book c.requires.workers.0 c.in-None.ensures c.round_or_step.ensures.round

pub returns-in-None-clause-failed : goal.returns-in-None-clause-failed
returns-in-None-clause-failed g c = stayed_turn c.round_or_step.result c.args.crew.now.workers c.args.house.now.book c.round_or_step.new.house.book c.round_or_step.ensures.same
