use Rattle.rcv_tightness.proofs.Meeting.{rows_are_met}
use Rattle.rcv_tightness.proofs.rows_are_met.Goals as goal

pub returns : goal.returns
returns c = rows_are_met
