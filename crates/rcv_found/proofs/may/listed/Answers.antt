-- All things were tried.
use Rattle.rcv_found.specs.Seen.{grammar_in}
use Rattle.rcv_found.proofs.Listing.{all_tried}
use Rattle.rcv_found.proofs.may.listed.Goals as goal

pub returns : goal.returns
returns c = all_tried (grammar_in c.args.grammar.now) c.args.bundle.now c.args.front.now c.args.things.now c.loop-rest.may.items c.loop-rest.rest.now
    c.in_default.len_below c.loop-rest.invariant
