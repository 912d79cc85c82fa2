use Rattle.rcv_export.proofs.Tables.{tables_are_read_back}
use Rattle.rcv_export.proofs.tables_are_read_back.Goals as goal

pub returns : goal.returns
returns c = tables_are_read_back
