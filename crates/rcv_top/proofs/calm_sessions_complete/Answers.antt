use Rattle.rcv_top.proofs.Traceless.{calm_sessions_complete}
use Rattle.rcv_top.proofs.calm_sessions_complete.Goals as goal

pub returns : goal.returns
returns c = calm_sessions_complete
