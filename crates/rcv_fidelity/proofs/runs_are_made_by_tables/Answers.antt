use Rattle.rcv_fidelity.proofs.Tables.{made_by_tables}
use Rattle.rcv_fidelity.proofs.runs_are_made_by_tables.Goals as goal

pub returns : goal.returns
returns c = made_by_tables
