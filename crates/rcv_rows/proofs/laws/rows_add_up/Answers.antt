use Rattle.rcv_rows.proofs.Summing.{rows_add_up}
use Rattle.rcv_rows.proofs.laws.rows_add_up.Goals as goal

pub returns : goal.returns
returns c = rows_add_up
