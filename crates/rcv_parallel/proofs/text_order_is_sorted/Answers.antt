use Rattle.rcv_parallel.proofs.text_order_is_sorted.Goals as goal
use Rattle.rcv_parallel.proofs.Sorting.{order_is_sorted}

pub returns : goal.returns
returns c = order_is_sorted
