use Rattle.rcv_losses.proofs.Restarting.{no_less}
use Rattle.rcv_losses.proofs.restarting_costs_no_less.Goals as goal

pub returns : goal.returns
returns c = no_less
