use Rattle.rcv_role.proofs.polls_are_exact.Goals as goal
use Rattle.rcv_role.proofs.Lawful.{polls_are_exact as law}

pub returns : goal.returns
returns c = law
