use Rattle.rcv_costs.proofs.Naming.{named}
use Rattle.rcv_costs.proofs.laws.costs_are_named.Goals as goal

pub returns : goal.returns
returns c = named
