use Rattle.std.proofs.Common.{length}
use Rattle.rcv_journal.specs.Recorded.{bare}
use Rattle.rcv_lines.proofs.Progress.{HasRead}
use Rattle.rcv_lines.proofs.text.read_text.Given as goal

abbrev pub invariant-loop-rest : goal.invariant-loop-rest
invariant-loop-rest l = HasRead (bare l.accepted.protocol) l.text l.rest l.number l.reading

abbrev pub decreases-loop-rest : goal.decreases-loop-rest
decreases-loop-rest l = length l.rest
