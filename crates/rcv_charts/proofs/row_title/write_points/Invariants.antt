use Rattle.std.proofs.Common.{◌≡◌, ◌++◌, codes, flat_map, take}
use Rattle.std.specs.Prelude.{decimal}
use Rattle.rcv_charts.proofs.row_title.write_points.Given as goal

abbrev pub invariant-loop-point : goal.invariant-loop-point
invariant-loop-point l = l.text ≡ l.initial.text ++ flat_map (λ p. codes "," ++ decimal p) (take l.point-index l.others)
