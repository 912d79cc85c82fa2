use Rattle.rcv_guided.proofs.LawsRestorable.{told_sessions_are_restorable}
use Rattle.rcv_guided.proofs.laws.told_sessions_are_restorable.Goals as goal

pub returns : goal.returns
returns c = told_sessions_are_restorable
