use Rattle.std.proofs.Common.{length}
use Rattle.rcv_reader.proofs.Reading.{ReceiversSoFar}
use Rattle.rcv_reader.proofs.parser.Parser.receivers.Given as goal

abbrev pub invariant-loop-earlier : goal.invariant-loop-earlier
invariant-loop-earlier l = ReceiversSoFar l.fn.self l.self l.earlier.0 l.sender l.receivers

abbrev pub decreases-loop-earlier : goal.decreases-loop-earlier
decreases-loop-earlier l = length l.self.rest
