use Rattle.std.proofs.Common.{length}
use Rattle.rcv_found.specs.Seen.{grammar_in}
use Rattle.rcv_found.specs.May.{SoFar}
use Rattle.rcv_found.proofs.may.listed.Given as goal

abbrev pub invariant-loop-rest : goal.invariant-loop-rest
invariant-loop-rest l = SoFar (grammar_in l.grammar) l.bundle l.front l.things l.may.items l.rest

abbrev pub decreases-loop-rest : goal.decreases-loop-rest
decreases-loop-rest l = length l.rest
