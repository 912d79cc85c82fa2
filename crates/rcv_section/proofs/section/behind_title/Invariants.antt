-- No line before the place is the one, and the rest stands there.
use Rattle.std.proofs.Common.{◌≡◌, ◌+◌, true, length}
use Rattle.rcv_section.specs.Scanning.{behind_from}
use Rattle.rcv_section.proofs.section.behind_title.Given as goal

abbrev pub invariant-loop-rest : goal.invariant-loop-rest
invariant-loop-rest l = record { so_far : behind_from l.word l.fresh l.place l.rest ≡ behind_from l.word true 0 l.text; all : l.place + length l.rest ≡ length l.text }

abbrev pub decreases-loop-rest : goal.decreases-loop-rest
decreases-loop-rest l = length l.rest
