use Rattle.rcv_tightness.proofs.ToldMeeting.{told_restarts_are_met}
use Rattle.rcv_tightness.proofs.told_restarts_are_met.Goals as goal

pub returns : goal.returns
returns c = told_restarts_are_met
