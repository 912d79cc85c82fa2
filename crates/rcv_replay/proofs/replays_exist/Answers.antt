use Rattle.rcv_replay.proofs.Existing.{replays_exist}
use Rattle.rcv_replay.proofs.replays_exist.Goals as goal

pub returns : goal.returns
returns c = replays_exist
