use Rattle.rcv_rows.proofs.Summing.{counts_add_up}
use Rattle.rcv_rows.proofs.laws.counts_add_up.Goals as goal

pub returns : goal.returns
returns c = counts_add_up
