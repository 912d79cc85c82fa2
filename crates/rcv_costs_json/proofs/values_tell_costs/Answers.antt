use Rattle.rcv_costs_json.proofs.Telling.{values_tell}
use Rattle.rcv_costs_json.proofs.values_tell_costs.Goals as goal

pub returns : goal.returns
returns c = values_tell
