use Rattle.rcv_lines.proofs.SmallValues.{values_fit}
use Rattle.rcv_lines.proofs.values_fit.Goals as goal

pub returns : goal.returns
returns c = values_fit
