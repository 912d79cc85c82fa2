use Rattle.rcv_input.proofs.Once.{one_answer}
use Rattle.rcv_input.proofs.inputs_have_one_answer.Goals as goal

pub returns : goal.returns
returns c = one_answer
