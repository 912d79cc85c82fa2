-- By the distance of each from the one before.
use Rattle.rcv_scene.proofs.Apart.{columns_apart}
use Rattle.rcv_scene.proofs.columns_stand_apart.Goals as goal

pub returns : goal.returns
returns c = columns_apart
