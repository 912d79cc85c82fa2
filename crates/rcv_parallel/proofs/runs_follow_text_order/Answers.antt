use Rattle.rcv_parallel.proofs.runs_follow_text_order.Goals as goal
use Rattle.rcv_parallel.proofs.EachRole.{runs_in_order}

pub returns : goal.returns
returns c = runs_in_order
