-- The list of the role has its first stamps alone.
use Rattle.rcv_retold.proofs.Listing.{list_cut}
use Rattle.rcv_retold.proofs.stamps.cut.Goals as goal

pub returns : goal.returns
returns c = list_cut c.args.stamps.now.items c.args.role c.truncate.new.self c.index_mut.result.now c.requires c.index_mut.ensures.value c.args.count c.truncate.ensures.items
