use Rattle.rcv_guided.proofs.LawsTaken.{snapshots_are_taken}
use Rattle.rcv_guided.proofs.laws.snapshots_are_taken.Goals as goal

pub returns : goal.returns
returns c = snapshots_are_taken
