use Rattle.rcv_costs_json.proofs.ReadBack.{costs_are_read_back}
use Rattle.rcv_costs_json.proofs.costs_are_read_back.Goals as goal

pub returns : goal.returns
returns c = costs_are_read_back
