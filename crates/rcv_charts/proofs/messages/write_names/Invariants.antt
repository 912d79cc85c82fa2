use Rattle.std.proofs.Common.{◌≡◌, ℕ, List, ◌++◌, codes, flat_map, take}
use Rattle.rcv_charts.proofs.messages.write_names.Given as goal

abbrev pub invariant-loop-name : goal.invariant-loop-name
invariant-loop-name l = l.text ≡ l.initial.text ++ flat_map (λ (name : List ℕ). codes ", " ++ name) (take l.name-index l.others)
