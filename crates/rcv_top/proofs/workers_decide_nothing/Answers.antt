use Rattle.rcv_top.proofs.Workers.{workers_decide_nothing}
use Rattle.rcv_top.proofs.workers_decide_nothing.Goals as goal

pub returns : goal.returns
returns c = workers_decide_nothing
