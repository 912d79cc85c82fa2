-- The places so far.
use Rattle.std.proofs.Common.{◌≡◌, ◌++◌, flat_map, take}
use Rattle.rcv_picture.specs.Tree.{escaped}
use Rattle.rcv_picture.specs.Drawn.{place_text}
use Rattle.rcv_picture.proofs.shapes.put_places.Given as goal

abbrev pub invariant-loop-at : goal.invariant-loop-at
invariant-loop-at l = l.text ≡ l.fn.text ++ flat_map (λ at. escaped (place_text at)) (take l.at-index l.places)
