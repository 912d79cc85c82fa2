-- Bystanders keep all.
use Rattle.rcv_told.proofs.Failing.{bystanders_keep_all}
use Rattle.rcv_told.proofs.laws.bystanders_keep_all.Goals as goal

pub returns : goal.returns
returns c = bystanders_keep_all
