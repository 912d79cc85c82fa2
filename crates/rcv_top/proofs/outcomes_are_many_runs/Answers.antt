use Rattle.rcv_top.proofs.Asked.{outcomes_are_many_runs}
use Rattle.rcv_top.proofs.outcomes_are_many_runs.Goals as goal

pub returns : goal.returns
returns c = outcomes_are_many_runs
