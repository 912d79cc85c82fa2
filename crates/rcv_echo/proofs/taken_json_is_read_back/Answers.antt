-- What is written is what is read.
use Rattle.rcv_echo.proofs.ReadBack.{taken_json}
use Rattle.rcv_echo.proofs.taken_json_is_read_back.Goals as goal

pub returns : goal.returns
returns c = taken_json
