use Rattle.rcv_top.proofs.Traceless.{sessions_keep_alike}
use Rattle.rcv_top.proofs.sessions_keep_alike.Goals as goal

pub returns : goal.returns
returns c = sessions_keep_alike
