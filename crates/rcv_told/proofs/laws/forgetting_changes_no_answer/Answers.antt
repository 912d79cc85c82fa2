use Rattle.rcv_told.proofs.Remembering.{no_answer}
use Rattle.rcv_told.proofs.laws.forgetting_changes_no_answer.Goals as goal

pub returns : goal.returns
returns c = no_answer
