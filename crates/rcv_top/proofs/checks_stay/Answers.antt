use Rattle.rcv_top.proofs.Again.{checks_stay}
use Rattle.rcv_top.proofs.checks_stay.Goals as goal

pub returns : goal.returns
returns c = checks_stay
