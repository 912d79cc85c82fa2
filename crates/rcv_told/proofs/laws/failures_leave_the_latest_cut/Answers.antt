-- Failures leave the latest cut.
use Rattle.rcv_told.proofs.Failing.{failures_leave_the_latest_cut}
use Rattle.rcv_told.proofs.laws.failures_leave_the_latest_cut.Goals as goal

pub returns : goal.returns
returns c = failures_leave_the_latest_cut
