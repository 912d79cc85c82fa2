use Rattle.rcv_role.proofs.cells_follow_the_session.Goals as goal
use Rattle.rcv_role.proofs.Lawful.{cells_follow_the_session as law}

pub returns : goal.returns
returns c = law
