use Rattle.rcv_parallel.proofs.texts_without_par_need_no_order.Goals as goal
use Rattle.rcv_parallel.proofs.OneLane.{no_par_order}

pub returns : goal.returns
returns c = no_par_order
