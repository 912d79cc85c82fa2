-- What is added so far.
use Rattle.std.proofs.Common.{◌≡◌, ◌++◌, map, take}
use Rattle.std.specs.Prelude.{All}
use Rattle.rcv_dialogue.specs.declared.line.Again.TheVariants as again
use Rattle.rcv_dialogue.specs.Answers.{NamesInAgain}
use Rattle.rcv_guided.specs.Hearing.{accepted_of}
use Rattle.rcv_guided.proofs.session.GuidedSession.add_saves_of.Given as goal

abbrev pub invariant-loop-count : goal.invariant-loop-count
invariant-loop-count l = record {
  items : l.lines.items ≡ l.initial.lines.items ++ map (λ count. again.Save l.role count) (take l.count-index l.count-items);
  named : All (NamesInAgain (accepted_of l.self)) l.initial.lines.items → All (NamesInAgain (accepted_of l.self)) l.lines.items;
}
