use Rattle.rcv_parallel.proofs.walks_sort_into_text_order.Goals as goal
use Rattle.rcv_parallel.proofs.Sorting.{walk_sorts}

pub returns : goal.returns
returns c = walk_sorts
