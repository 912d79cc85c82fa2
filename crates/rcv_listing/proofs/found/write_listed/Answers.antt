-- The pieces, one after another.
use Rattle.std.proofs.Common.{codes, flat_map}
use Rattle.rcv_found.specs.Things.{said_of}
use Rattle.rcv_listing.specs.Found.{next_text}
use Rattle.rcv_listing.proofs.Lines.{four}
use Rattle.rcv_listing.proofs.found.write_listed.Goals as goal

pub returns : goal.returns
returns c = four c.args.text.now c.word.new.self c.write_thing.new.text c.write_more.new.text c.word-2.new.self
    (codes "may stand here: ") (said_of c.args.first.now) (flat_map next_text c.args.more.now) (codes "\n")
    c.in_ok-word.ensures.ok c.in_ok-write_thing.ensures c.in_ok-write_more.ensures c.in_ok-word-2.ensures.ok
