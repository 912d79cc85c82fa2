use Rattle.rcv_judge.proofs.Closings.{one_closing}
use Rattle.rcv_judge.proofs.one_closing_is_first_wrong.Goals as goal

pub returns : goal.returns
returns c = one_closing
