use Rattle.std.proofs.Common.{◌-◌}
use Rattle.rcv_lexer.proofs.Scanning.{Onward}
use Rattle.rcv_lexer.proofs.scan.bad_letter.Given as goal

abbrev pub invariant-loop-place : goal.invariant-loop-place
invariant-loop-place l = Onward l.bundle l.part l.place

abbrev pub decreases-loop-place : goal.decreases-loop-place
decreases-loop-place l = l.part.end - l.place
