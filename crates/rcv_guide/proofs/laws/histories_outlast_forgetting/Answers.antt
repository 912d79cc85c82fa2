use Rattle.rcv_guide.proofs.Histories.{histories_outlast_forgetting}
use Rattle.rcv_guide.proofs.laws.histories_outlast_forgetting.Goals as goal

pub returns : goal.returns
returns c = histories_outlast_forgetting
