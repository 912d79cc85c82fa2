use Rattle.rcv_fidelity.proofs.Safety.{machines_safe}
use Rattle.rcv_fidelity.proofs.machines_are_safe.Goals as goal

pub returns : goal.returns
returns c = machines_safe
