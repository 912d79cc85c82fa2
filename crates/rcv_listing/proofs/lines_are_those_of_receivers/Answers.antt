use Rattle.rcv_listing.proofs.Receiving.{lines_are_those_of_receivers}
use Rattle.rcv_listing.proofs.lines_are_those_of_receivers.Goals as goal

pub returns : goal.returns
returns c = lines_are_those_of_receivers
