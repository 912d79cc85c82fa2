-- The value is the same for sessions with one protocol.
use Rattle.std.proofs.Common.{◌≡◌, ap}
use Rattle.rcv_tree.specs.declared.protocol.Protocol.{Protocol}
use Rattle.rcv_session.specs.Session.{SessionView}
use Rattle.rcv_costs.specs.declared.numbers.Costs.{Costs}
use Rattle.rcv_costs_json.specs.CostsJson.{costs_data}

pub value_there : (old new : SessionView) (costs : Costs) → new.protocol ≡ old.protocol → costs_data new costs ≡ costs_data old costs
value_there old new costs same = ap (λ (x : Protocol). costs_data (record old { protocol = x }) costs) same
