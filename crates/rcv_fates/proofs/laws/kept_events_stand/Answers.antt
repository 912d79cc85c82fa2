use Rattle.rcv_fates.proofs.Keeping.{stands}
use Rattle.rcv_fates.proofs.laws.kept_events_stand.Goals as goal

pub returns : goal.returns
returns c = stands
