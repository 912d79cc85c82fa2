use Rattle.rcv_judge.proofs.FirstWrong.{one_first}
use Rattle.rcv_judge.proofs.one_entry_is_first_wrong.Goals as goal

pub returns : goal.returns
returns c = one_first
