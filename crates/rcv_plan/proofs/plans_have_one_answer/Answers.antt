use Rattle.rcv_plan.proofs.Once.{plans_have_one_answer}
use Rattle.rcv_plan.proofs.plans_have_one_answer.Goals as goal

pub returns : goal.returns
returns c = plans_have_one_answer
