use Rattle.std.proofs.Common.{◌≡◌, ◌++◌, codes, flat_map, take}
use Rattle.std.specs.Prelude.{decimal}
use Rattle.rcv_charts.proofs.boxes.write_places.Given as goal

abbrev pub invariant-loop-place : goal.invariant-loop-place
invariant-loop-place l = l.text ≡ l.initial.text ++ flat_map (λ p. codes ", " ++ decimal p) (take l.place-index l.others)
