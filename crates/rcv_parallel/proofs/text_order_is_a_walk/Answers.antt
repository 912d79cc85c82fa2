use Rattle.rcv_parallel.proofs.text_order_is_a_walk.Goals as goal
use Rattle.rcv_parallel.proofs.Joining.{order_walk}

pub returns : goal.returns
returns c = order_walk
