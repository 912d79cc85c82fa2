-- What was read so far.
use Rattle.std.proofs.Common.{map}
use Rattle.serde_json.specs.View.{view}
use Rattle.rcv_journal.specs.Recorded.{bare}
use Rattle.rcv_json_reader.proofs.Firsts.{AreFirstLimited}
use Rattle.rcv_json_reader.proofs.lists.read_limited.Given as goal

abbrev pub invariant-loop-part : goal.invariant-loop-part
invariant-loop-part l = AreFirstLimited (bare l.fn.protocol) (map view l.parts) l.part-index l.least l.found.items
