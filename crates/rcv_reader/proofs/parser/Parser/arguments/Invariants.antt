use Rattle.std.proofs.Common.{length}
use Rattle.rcv_reader.proofs.Calling.{ArgumentsSoFar}
use Rattle.rcv_reader.proofs.parser.Parser.arguments.Given as goal

abbrev pub invariant-loop-earlier : goal.invariant-loop-earlier
invariant-loop-earlier l = ArgumentsSoFar l.fn.self l.self l.earlier.0 l.arguments

abbrev pub decreases-loop-earlier : goal.decreases-loop-earlier
decreases-loop-earlier l = length l.self.rest
