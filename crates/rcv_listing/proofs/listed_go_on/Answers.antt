use Rattle.rcv_listing.proofs.Going.{listed_go_on}
use Rattle.rcv_listing.proofs.listed_go_on.Goals as goal

pub returns : goal.returns
returns c = listed_go_on
