use Rattle.rcv_rows.proofs.Summing.{sends_add_up}
use Rattle.rcv_rows.proofs.laws.sends_add_up.Goals as goal

pub returns : goal.returns
returns c = sends_add_up
