use Rattle.rcv_later.proofs.Laters.{the_first}
use Rattle.rcv_later.proofs.the_first_is_the_session.Goals as goal

pub returns : goal.returns
returns c = the_first
