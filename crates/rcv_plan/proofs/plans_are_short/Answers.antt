use Rattle.rcv_plan.proofs.Few.{plans_are_short}
use Rattle.rcv_plan.proofs.plans_are_short.Goals as goal

pub returns : goal.returns
returns c = plans_are_short
