-- What was found, with its status.
use Rattle.rcv_look.proofs.replay.replay_answer.Goals as goal

pub returns : goal.returns
returns c = record { finding = c.in_ok-diagnosis.diagnosis.finding; diagnosis = c.in_ok-diagnosis.ensures; is_status = c.status_of.ensures }
