use Rattle.rcv_costs.proofs.Again.{counted}
use Rattle.rcv_costs.proofs.laws.again_is_counted.Goals as goal

pub returns : goal.returns
returns c = counted
