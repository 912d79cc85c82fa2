use Rattle.std.proofs.Common.{◌≡◌, ◌++◌, flat_map, take}
use Rattle.rcv_listing.specs.Found.{next_text}
use Rattle.rcv_listing.proofs.found.write_more.Given as goal

abbrev pub invariant-loop-thing : goal.invariant-loop-thing
invariant-loop-thing l = l.text ≡ l.initial.text ++ flat_map next_text (take l.thing-index l.things)
