use Rattle.rcv_picture.proofs.Size.{pictures_short}
use Rattle.rcv_picture.proofs.pictures_are_short.Goals as goal

pub returns : goal.returns
returns c = pictures_short
