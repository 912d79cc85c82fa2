use Rattle.rcv_top.proofs.Headlines.{journals_are_legal}
use Rattle.rcv_top.proofs.journals_are_legal.Goals as goal

pub returns : goal.returns
returns c = journals_are_legal
