use Rattle.rcv_replay.proofs.Journals.{legal_journals}
use Rattle.rcv_replay.proofs.legal_replays_are_journals.Goals as goal

pub returns : goal.returns
returns c = legal_journals
