use Rattle.rcv_fates.proofs.Clocks.{once}
use Rattle.rcv_fates.proofs.laws.events_stand_once.Goals as goal

pub returns : goal.returns
returns c = once
