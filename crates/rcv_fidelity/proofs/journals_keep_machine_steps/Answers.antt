use Rattle.rcv_fidelity.proofs.Recording.{journals_keep_steps}
use Rattle.rcv_fidelity.proofs.journals_keep_machine_steps.Goals as goal

pub returns : goal.returns
returns c = journals_keep_steps
