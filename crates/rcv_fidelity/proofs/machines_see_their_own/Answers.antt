use Rattle.rcv_fidelity.proofs.Seeing.{sees_its_own}
use Rattle.rcv_fidelity.proofs.machines_see_their_own.Goals as goal

pub returns : goal.returns
returns c = sees_its_own
