use Rattle.rcv_plan.proofs.Fitting.{read_is_planned}
use Rattle.rcv_plan.proofs.read_plans_are_planned.Goals as goal

pub returns : goal.returns
returns c = read_is_planned
