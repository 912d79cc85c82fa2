use Rattle.rcv_parallel.proofs.form_has_lanes_in_order.Goals as goal
use Rattle.rcv_parallel.proofs.TextLanes.{text_lanes}

pub returns : goal.returns
returns c = text_lanes
