use Rattle.rcv_picture.proofs.Pictures.{pictures_well_formed}
use Rattle.rcv_picture.proofs.pictures_are_well_formed.Goals as goal

pub returns : goal.returns
returns c = pictures_well_formed
