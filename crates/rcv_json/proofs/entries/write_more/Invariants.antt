use Rattle.std.proofs.Common.{◌≡◌, ◌++◌, flat_map, take}
use Rattle.rcv_json.specs.Pieces.{next_json}
use Rattle.rcv_json.proofs.entries.write_more.Given as goal

abbrev pub invariant-loop-entry : goal.invariant-loop-entry
invariant-loop-entry l = l.text ≡ l.fn.text ++ flat_map (next_json l.setup) (take l.entry-index l.entries)
