use Rattle.rcv_judge.proofs.ClosingsJudged.{closings_judged}
use Rattle.rcv_judge.proofs.closings_are_judged.Goals as goal

pub returns : goal.returns
returns c = closings_judged
