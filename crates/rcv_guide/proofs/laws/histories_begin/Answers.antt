use Rattle.rcv_guide.proofs.Histories.{histories_begin}
use Rattle.rcv_guide.proofs.laws.histories_begin.Goals as goal

pub returns : goal.returns
returns c = histories_begin
