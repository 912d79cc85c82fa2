use Rattle.rcv_fidelity.proofs.Stepping.{made_by_machines}
use Rattle.rcv_fidelity.proofs.runs_are_made_by_machines.Goals as goal

pub returns : goal.returns
returns c = made_by_machines
