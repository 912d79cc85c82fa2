use Rattle.std.proofs.Common.{rules}
use Rattle.rcv_fence.proofs.watch.fence.Goals as goal

pub returns-clause-one : goal.returns-clause-one
returns-clause-one c = (c.loop.first.fence, search rules)
