use Rattle.rcv_tightness.proofs.Meeting.{restarts_are_met}
use Rattle.rcv_tightness.proofs.restarts_are_met.Goals as goal

pub returns : goal.returns
returns c = restarts_are_met
