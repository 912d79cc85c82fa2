use Rattle.std.proofs.Common.{◌≡◌, false, ◌++◌, length}
use Rattle.std.specs.List.{All}
use Rattle.rcv_lexer.specs.Parts.{LiesIn}
use Rattle.rcv_listing.specs.Receivers.{receivers_of, up_to_next, lines_of}
use Rattle.rcv_listing.proofs.receivers.lines_up_to_next.Given as goal

abbrev pub invariant-loop-rest : goal.invariant-loop-rest
invariant-loop-rest l = record {
  so_far : l.lines ++ lines_of (receivers_of l.input l.listed (up_to_next l.input l.rest)) ≡ lines_of (receivers_of l.input false (up_to_next l.input l.tokens));
  inside : All (λ t. LiesIn l.input t.span) l.rest;
}

abbrev pub decreases-loop-rest : goal.decreases-loop-rest
decreases-loop-rest l = length l.rest
