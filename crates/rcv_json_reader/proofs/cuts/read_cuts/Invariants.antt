-- What was read so far.
use Rattle.std.proofs.Common.{map}
use Rattle.serde_json.specs.View.{view}
use Rattle.rcv_journal.specs.Recorded.{bare}
use Rattle.rcv_json_reader.specs.Parts.{HasRead}
use Rattle.rcv_json_reader.proofs.cuts.read_cuts.Given as goal

abbrev pub invariant-loop-role : goal.invariant-loop-role
invariant-loop-role l = HasRead (bare l.fn.protocol) (map view l.pairs) l.role l.cuts.read l.cuts.concerned.0 l.cuts.kept
