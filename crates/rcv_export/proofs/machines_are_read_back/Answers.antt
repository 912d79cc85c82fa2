use Rattle.rcv_export.proofs.Machines.{machines_are_read_back}
use Rattle.rcv_export.proofs.machines_are_read_back.Goals as goal

pub returns : goal.returns
returns c = machines_are_read_back
