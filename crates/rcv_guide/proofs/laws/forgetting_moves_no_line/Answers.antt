use Rattle.rcv_guide.proofs.Unmoved.{forgetting_moves_no_line}
use Rattle.rcv_guide.proofs.laws.forgetting_moves_no_line.Goals as goal

pub returns : goal.returns
returns c = forgetting_moves_no_line
