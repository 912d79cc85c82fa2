-- What is written is what is read.
use Rattle.rcv_json_reader.proofs.RoundTrip.{lines_are_read_back}
use Rattle.rcv_json_reader.proofs.laws.lines_are_read_back.Goals as goal

pub returns : goal.returns
returns c = lines_are_read_back
