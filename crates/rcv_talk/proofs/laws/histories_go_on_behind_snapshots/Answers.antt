use Rattle.rcv_talk.proofs.Telling.{histories_go_on_behind_snapshots}
use Rattle.rcv_talk.proofs.laws.histories_go_on_behind_snapshots.Goals as goal

pub returns : goal.returns
returns c = histories_go_on_behind_snapshots
