use Rattle.rcv_judge.proofs.Unique.{one_of_role}
use Rattle.rcv_judge.proofs.entries_of_a_role_are_one.Goals as goal

pub returns : goal.returns
returns c = one_of_role
