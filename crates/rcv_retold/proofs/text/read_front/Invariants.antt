-- The entries so far are the text's first.
use Rattle.std.proofs.Common.{length}
use Rattle.rcv_retold.proofs.Fronts.{IsFront}
use Rattle.rcv_retold.proofs.text.read_front.Given as goal

abbrev pub invariant-loop-rest : goal.invariant-loop-rest
invariant-loop-rest l = IsFront l.accepted.protocol l.text l.entries.items l.bytes l.rest

abbrev pub decreases-loop-rest : goal.decreases-loop-rest
decreases-loop-rest l = length l.rest
