use Rattle.rcv_parallel.proofs.one_lane_needs_no_order.Goals as goal
use Rattle.rcv_parallel.proofs.OneLane.{lane_order}

pub returns : goal.returns
returns c = λ net lanes k w one le. lane_order net k w one lanes le
