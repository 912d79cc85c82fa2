use Rattle.rcv_model.proofs.recoveries_tell_right.Goals as goal
use Rattle.rcv_model.proofs.Telling.{tells_right}

pub returns : goal.returns
returns c = tells_right
