use Rattle.rcv_later.proofs.Laters.{are_planned}
use Rattle.rcv_later.proofs.later_sessions_are_planned.Goals as goal

pub returns : goal.returns
returns c = are_planned
