use Rattle.rcv_rows.proofs.Determined.{rows_determined}
use Rattle.rcv_rows.proofs.laws.rows_are_determined.Goals as goal

pub returns : goal.returns
returns c = rows_determined
