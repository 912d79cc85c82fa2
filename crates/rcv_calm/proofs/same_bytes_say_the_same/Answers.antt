use Rattle.rcv_calm.proofs.SameBytes.{same_bytes}
use Rattle.rcv_calm.proofs.same_bytes_say_the_same.Goals as goal

pub returns : goal.returns
returns c = same_bytes
