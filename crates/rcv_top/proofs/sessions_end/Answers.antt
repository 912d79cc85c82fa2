use Rattle.rcv_top.proofs.Ending.{sessions_end}
use Rattle.rcv_top.proofs.sessions_end.Goals as goal

pub returns : goal.returns
returns c = sessions_end
