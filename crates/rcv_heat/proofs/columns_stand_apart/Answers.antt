use Rattle.rcv_heat.proofs.Apart.{columns}
use Rattle.rcv_heat.proofs.columns_stand_apart.Goals as goal

pub returns : goal.returns
returns c = columns
