-- What was read so far.
use Rattle.std.proofs.Common.{map}
use Rattle.serde_json.specs.View.{view}
use Rattle.rcv_journal.specs.Recorded.{bare}
use Rattle.rcv_json_reader.proofs.Firsts.{AreFirstLines}
use Rattle.rcv_json_reader.proofs.lists.read_lines.Given as goal

abbrev pub invariant-loop-place : goal.invariant-loop-place
invariant-loop-place l = AreFirstLines (bare l.fn.protocol) (map view l.parts) l.place l.found.items
