use Rattle.std.proofs.Common.{◌≡◌, ◌++◌, length}
use Rattle.std.specs.List.{All}
use Rattle.rcv_lexer.specs.Parts.{LiesIn}
use Rattle.rcv_syntax.specs.Trees.{lines_of_calls}
use Rattle.rcv_reader.proofs.calls.lines_of_calls.Given as goal

abbrev pub invariant-loop-rest : goal.invariant-loop-rest
invariant-loop-rest l = record {
  so_far : l.lines ++ lines_of_calls l.bundle l.rest ≡ lines_of_calls l.bundle l.list;
  inside : All (λ t. LiesIn l.bundle t.span) l.rest;
}

abbrev pub decreases-loop-rest : goal.decreases-loop-rest
decreases-loop-rest l = length l.rest
