-- Where all roles are done, the session has completed.
use Rattle.rcv_super.proofs.alone.end_of.Goals as goal

pub returns-then-all_done : goal.returns-then-all_done
returns-then-all_done c = (c.requires, c.all_done.ensures.value.0 c.if-all_done.true)
