-- What was read is full and has names.
use Rattle.rcv_input.proofs.Formed.{is_full, has_names}
use Rattle.rcv_listing.proofs.Ruled.{if_listed}
use Rattle.rcv_listing.proofs.listing.points_text.Goals as goal

pub listing_of-requires-clause-full : goal.listing_of-requires-clause-full
listing_of-requires-clause-full c = is_full c.args.input.now c.in-Ok.source.protocol c.in-Ok.ensures.read.text

pub listing_of-requires-clause-names : goal.listing_of-requires-clause-names
listing_of-requires-clause-names c = has_names c.args.input.now c.in-Ok.source.protocol c.in-Ok.ensures.read.text

pub returns-in-Ok : goal.returns-in-Ok
returns-in-Ok c = if_listed c.args.input.now c.in-Ok.source.protocol c.in-Ok.source.lines.items c.listing_of.result c.in-Ok.ensures.read c.listing_of.ensures
