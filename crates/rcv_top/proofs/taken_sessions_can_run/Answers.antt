use Rattle.rcv_top.proofs.Rooms.{taken_sessions_can_run}
use Rattle.rcv_top.proofs.taken_sessions_can_run.Goals as goal

pub returns : goal.returns
returns c = taken_sessions_can_run
