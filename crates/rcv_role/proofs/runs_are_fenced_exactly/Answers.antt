use Rattle.rcv_role.proofs.runs_are_fenced_exactly.Goals as goal
use Rattle.rcv_role.proofs.Lawful.{runs_are_fenced_exactly as law}

pub returns : goal.returns
returns c = law
