-- What the other thread borrows can be lent to it.
use denote.Param.Send.{sendable}
use Rattle.rcv_super.proofs.Crossing.{runner_send}
use Rattle.rcv_super.proofs.beside.go_back_beside.Goals as goal

pub join_mut-requires-send-F : goal.join_mut-requires-send-F
join_mut-requires-send-F g c κs within = search (c.type_bounds.sync-G, c.type_bounds.sync-R, runner_send, sendable) depth 60 fits 20000
