use Rattle.rcv_parallel.proofs.next_follows_text_order.Goals as goal
use Rattle.rcv_parallel.proofs.Beginnings.{next_in_order}

pub returns : goal.returns
returns c = next_in_order
