use Rattle.rcv_diagnosis.proofs.Replays.{diagnoses_are_replays}
use Rattle.rcv_diagnosis.proofs.diagnoses_are_replays.Goals as goal

pub returns : goal.returns
returns c = diagnoses_are_replays
