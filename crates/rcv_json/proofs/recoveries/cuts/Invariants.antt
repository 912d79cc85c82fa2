-- The roles so far.
use Rattle.std.specs.Prelude.{◌≡◌, map}
use Rattle.serde_json.specs.View.{view}
use Rattle.rcv_journal.specs.Json.{cuts_data}
use Rattle.rcv_json.proofs.recoveries.cuts.Given as goal

abbrev pub invariant-loop-role : goal.invariant-loop-role
invariant-loop-role l = map view l.list.items ≡ cuts_data l.setup l.concerned.0 l.kept l.role
