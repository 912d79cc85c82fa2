use Rattle.rcv_losses.proofs.Worst.{found}
use Rattle.rcv_losses.proofs.the_worst_is_found.Goals as goal

pub returns : goal.returns
returns c = found
