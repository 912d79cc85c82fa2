use Rattle.rcv_later.proofs.Laters.{later_rules}
use Rattle.rcv_later.proofs.later_rules_are_the_rules.Goals as goal

pub returns : goal.returns
returns c = later_rules
