use Rattle.std.proofs.Common.{◌≡◌, ◌+◌, ◌++◌, length}
use Rattle.std.specs.List.{All}
use Rattle.rcv_lexer.specs.Parts.{LiesIn}
use Rattle.rcv_found.specs.Stops.{numbered}
use Rattle.rcv_found.proofs.stop.numbered.Given as goal

abbrev pub invariant-loop-rest : goal.invariant-loop-rest
invariant-loop-rest l = record {
  so_far : l.tokens.items ++ numbered l.place l.rest ≡ numbered 0 l.list;
  places : l.place + length l.rest ≡ length l.list;
  inside : All (λ t. LiesIn l.bundle t.span) l.rest;
}

abbrev pub decreases-loop-rest : goal.decreases-loop-rest
decreases-loop-rest l = length l.rest
