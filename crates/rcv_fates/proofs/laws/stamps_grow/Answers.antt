use Rattle.rcv_fates.proofs.Clocks.{grow}
use Rattle.rcv_fates.proofs.laws.stamps_grow.Goals as goal

pub returns : goal.returns
returns c = grow
