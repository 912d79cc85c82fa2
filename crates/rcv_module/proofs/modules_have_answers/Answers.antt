use Rattle.rcv_module.proofs.Answering as answering
use Rattle.rcv_module.proofs.modules_have_answers.Goals as goal

pub returns : goal.returns
returns c = answering.modules_have_answers
