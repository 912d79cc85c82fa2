-- What is read is one.
use Rattle.rcv_dialogue.proofs.Texts.{one_thing}
use Rattle.rcv_dialogue.proofs.lines_say_one_thing.Goals as goal

pub returns : goal.returns
returns c = λ a text x y accepted says-x says-y. one_thing a accepted text x y says-x says-y
