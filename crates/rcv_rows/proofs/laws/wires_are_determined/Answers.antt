use Rattle.rcv_rows.proofs.Determined.{wires_determined}
use Rattle.rcv_rows.proofs.laws.wires_are_determined.Goals as goal

pub returns : goal.returns
returns c = wires_determined
