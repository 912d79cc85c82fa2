use Rattle.rcv_guided.proofs.LawsRestored.{snapshots_restore}
use Rattle.rcv_guided.proofs.laws.snapshots_restore.Goals as goal

pub returns : goal.returns
returns c = snapshots_restore
