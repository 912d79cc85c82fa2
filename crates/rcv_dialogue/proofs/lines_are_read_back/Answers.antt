-- Its words are read again.
use Rattle.rcv_dialogue.proofs.Texts.{read_back}
use Rattle.rcv_dialogue.proofs.lines_are_read_back.Goals as goal

pub returns : goal.returns
returns c = λ a l accepted is. read_back a l accepted is
