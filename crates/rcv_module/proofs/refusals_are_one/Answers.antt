use Rattle.rcv_module.proofs.Unique as unique
use Rattle.rcv_module.proofs.refusals_are_one.Goals as goal

pub returns : goal.returns
returns c = unique.refusals_are_one
