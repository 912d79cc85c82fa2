-- Where nothing is left to do, all roles are done, or one has come to the limit.
use Rattle.rcv_top.specs.Running.{all_done, at_limit}
use Rattle.rcv_top.proofs.run.status_of.Goals as goal

pub returns-then-all_done : goal.returns-then-all_done
returns-then-all_done c = all_done (c.all_done.ensures.value.0 c.if-all_done.true)

pub returns-else-all_done : goal.returns-else-all_done
returns-else-all_done c = at_limit (c.all_done.ensures.limit c.if-all_done.false c.requires)
