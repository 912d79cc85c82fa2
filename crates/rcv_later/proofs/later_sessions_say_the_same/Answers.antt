use Rattle.rcv_later.proofs.Laters.{say_the_same}
use Rattle.rcv_later.proofs.later_sessions_say_the_same.Goals as goal

pub returns : goal.returns
returns c = say_the_same
