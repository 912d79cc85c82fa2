use Rattle.std.proofs.Common.{length}
use Rattle.rcv_reader.proofs.Reading.{NamesOf}
use Rattle.rcv_reader.proofs.parser.Parser.names.Given as goal

abbrev pub invariant-loop-names : goal.invariant-loop-names
invariant-loop-names l = NamesOf l.between l.behind l.fn.self l.self l.names

abbrev pub decreases-loop-names : goal.decreases-loop-names
decreases-loop-names l = length l.self.rest
