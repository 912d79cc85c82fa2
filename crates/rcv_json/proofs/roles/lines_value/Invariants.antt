-- The lines so far.
use Rattle.std.specs.Prelude.{◌≡◌, map, take}
use Rattle.serde_json.specs.View.{view}
use Rattle.rcv_journal.specs.Json.{line_data}
use Rattle.rcv_json.proofs.roles.lines_value.Given as goal

abbrev pub invariant-loop-line : goal.invariant-loop-line
invariant-loop-line l = map view l.list.items ≡ map (line_data l.setup) (take l.line-index l.lines)
