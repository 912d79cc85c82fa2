use Rattle.rcv_role.proofs.rewinds_alone_hold_first_events.Goals as goal
use Rattle.rcv_role.proofs.Lawful.{rewinds_alone_hold_first_events as law}

pub returns : goal.returns
returns c = law
