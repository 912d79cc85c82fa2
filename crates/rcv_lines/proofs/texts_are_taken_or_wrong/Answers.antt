use Rattle.rcv_lines.proofs.TakenOrWrong.{taken_or_wrong}
use Rattle.rcv_lines.proofs.texts_are_taken_or_wrong.Goals as goal

pub returns : goal.returns
returns c = taken_or_wrong
