use Rattle.rcv_parallel.proofs.sorting_keeps_each_role.Goals as goal
use Rattle.rcv_parallel.proofs.EachRole.{keeps_role}

pub returns : goal.returns
returns c = keeps_role
