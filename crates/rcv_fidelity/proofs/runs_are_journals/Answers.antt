use Rattle.rcv_fidelity.proofs.Recording.{journals_exist}
use Rattle.rcv_fidelity.proofs.runs_are_journals.Goals as goal

pub returns : goal.returns
returns c = journals_exist
