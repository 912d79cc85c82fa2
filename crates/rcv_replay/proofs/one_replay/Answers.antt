use Rattle.rcv_replay.proofs.Once.{one_replay}
use Rattle.rcv_replay.proofs.one_replay.Goals as goal

pub returns : goal.returns
returns c = one_replay
