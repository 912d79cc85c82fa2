-- By the distance of each from the one before.
use Rattle.rcv_scene.proofs.Apart.{rows_apart}
use Rattle.rcv_scene.proofs.rows_stand_apart.Goals as goal

pub returns : goal.returns
returns c = rows_apart
