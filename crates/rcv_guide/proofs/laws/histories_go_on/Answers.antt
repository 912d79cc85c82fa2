use Rattle.rcv_guide.proofs.Histories.{histories_go_on}
use Rattle.rcv_guide.proofs.laws.histories_go_on.Goals as goal

pub returns : goal.returns
returns c = histories_go_on
