use Rattle.std.proofs.Common.{◌≡◌, ◌+◌, ◌≤◌, true, length}
use Rattle.rcv_lexer.specs.Parts.{first_from}
use Rattle.rcv_lexer.proofs.parts.first_from.Given as goal

abbrev pub invariant-loop-rest : goal.invariant-loop-rest
invariant-loop-rest l = record { so_far : first_from l.scripts l.fresh l.at l.rest ≡ first_from l.scripts true l.place l.text; all : l.at + length l.rest ≡ l.place + length l.text; onward : l.place ≤ l.at }

abbrev pub decreases-loop-rest : goal.decreases-loop-rest
decreases-loop-rest l = length l.rest
