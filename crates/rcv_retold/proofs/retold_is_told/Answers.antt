use Rattle.rcv_retold.proofs.Sounding.{retold_is_told}
use Rattle.rcv_retold.proofs.retold_is_told.Goals as goal

pub returns : goal.returns
returns c = retold_is_told
