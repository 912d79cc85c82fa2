-- No line before the place begins so, and the rest stands there.
use Rattle.std.proofs.Common.{◌≡◌, ◌+◌, true, length}
use Rattle.rcv_section.specs.Scanning.{heading_from}
use Rattle.rcv_section.proofs.section.next_heading.Given as goal

abbrev pub invariant-loop-rest : goal.invariant-loop-rest
invariant-loop-rest l = record { so_far : heading_from l.fresh l.place l.rest ≡ heading_from true 0 l.text; all : l.place + length l.rest ≡ length l.text }

abbrev pub decreases-loop-rest : goal.decreases-loop-rest
decreases-loop-rest l = length l.rest
