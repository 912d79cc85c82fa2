use Rattle.rcv_plan.proofs.Alone.{alone}
use Rattle.rcv_plan.proofs.one_crash_is_alone.Goals as goal

pub returns : goal.returns
returns c = alone
