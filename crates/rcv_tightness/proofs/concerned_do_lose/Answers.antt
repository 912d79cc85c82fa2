use Rattle.rcv_tightness.proofs.Meeting.{concerned_do_lose}
use Rattle.rcv_tightness.proofs.concerned_do_lose.Goals as goal

pub returns : goal.returns
returns c = concerned_do_lose
