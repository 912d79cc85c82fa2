use Rattle.rcv_heat.proofs.Apart.{rows}
use Rattle.rcv_heat.proofs.rows_stand_apart.Goals as goal

pub returns : goal.returns
returns c = rows
