use Rattle.rcv_module.proofs.Unique as unique
use Rattle.rcv_module.proofs.expansions_are_one.Goals as goal

pub returns : goal.returns
returns c = unique.expansions_are_one
