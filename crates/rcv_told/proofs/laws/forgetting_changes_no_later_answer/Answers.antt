use Rattle.rcv_told.proofs.Remembering.{no_later_answer}
use Rattle.rcv_told.proofs.laws.forgetting_changes_no_later_answer.Goals as goal

pub returns : goal.returns
returns c = no_later_answer
