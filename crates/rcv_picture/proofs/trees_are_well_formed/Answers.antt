use Rattle.rcv_picture.proofs.Spelling.{well_formed}
use Rattle.rcv_picture.proofs.trees_are_well_formed.Goals as goal

pub returns : goal.returns
returns c = well_formed
