use Rattle.rcv_module.proofs.Coming as coming
use Rattle.rcv_module.proofs.origins_are_of_points.Goals as goal

pub returns : goal.returns
returns c = coming.origins_are_of_points
