use Rattle.rcv_top.proofs.Existing.{outcomes_exist}
use Rattle.rcv_top.proofs.outcomes_exist.Goals as goal

pub returns : goal.returns
returns c = outcomes_exist
