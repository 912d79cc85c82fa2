use Rattle.rcv_picture.proofs.Pictures.{stand_alone}
use Rattle.rcv_picture.proofs.pictures_stand_alone.Goals as goal

pub returns : goal.returns
returns c = stand_alone
