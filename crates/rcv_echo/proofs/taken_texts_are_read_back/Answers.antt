-- What is written is what is read.
use Rattle.rcv_echo.proofs.ReadBack.{taken_texts}
use Rattle.rcv_echo.proofs.taken_texts_are_read_back.Goals as goal

pub returns : goal.returns
returns c = taken_texts
