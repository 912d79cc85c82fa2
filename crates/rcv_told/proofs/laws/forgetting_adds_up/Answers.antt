use Rattle.rcv_told.proofs.Adding.{adds_up}
use Rattle.rcv_told.proofs.laws.forgetting_adds_up.Goals as goal

pub returns : goal.returns
returns c = adds_up
