use Rattle.rcv_parallel.proofs.text_order_goes_by_stages.Goals as goal
use Rattle.rcv_parallel.proofs.OfStages.{stages_are}

pub returns : goal.returns
returns c = stages_are
