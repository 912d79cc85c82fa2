use Rattle.rcv_judge.proofs.Deciding.{entries_judged}
use Rattle.rcv_judge.proofs.entries_are_judged.Goals as goal

pub returns : goal.returns
returns c = entries_judged
