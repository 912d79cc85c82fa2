-- No told text begins with its lines.
use Rattle.rcv_retold.proofs.Beginning.{told_none}
use Rattle.rcv_retold.proofs.wrong_texts_are_not_told.Goals as goal

pub returns : goal.returns
returns c = told_none
