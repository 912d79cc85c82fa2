use Rattle.rcv_top.proofs.Outcomes.{one_outcome}
use Rattle.rcv_top.proofs.one_outcome.Goals as goal

pub returns : goal.returns
returns c = one_outcome
