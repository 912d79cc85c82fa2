use Rattle.rcv_fates.proofs.Messages.{one_send}
use Rattle.rcv_fates.proofs.laws.each_recv_has_one_send.Goals as goal

pub returns : goal.returns
returns c = λ rules journal t got legal at. one_send rules journal legal t got at
