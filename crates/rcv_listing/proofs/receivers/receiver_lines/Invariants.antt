use Rattle.std.proofs.Common.{◌≡◌, ◌++◌, length}
use Rattle.std.specs.List.{All}
use Rattle.rcv_lexer.specs.Parts.{LiesIn}
use Rattle.rcv_listing.specs.Receivers.{receiver_lines}
use Rattle.rcv_listing.proofs.receivers.receiver_lines.Given as goal

abbrev pub invariant-loop-rest : goal.invariant-loop-rest
invariant-loop-rest l = record {
  so_far : l.lines.items ++ receiver_lines l.input l.rest ≡ receiver_lines l.input l.tokens;
  inside : All (λ t. LiesIn l.input t.span) l.rest;
}

abbrev pub decreases-loop-rest : goal.decreases-loop-rest
decreases-loop-rest l = length l.rest
