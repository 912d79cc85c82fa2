-- What is added so far.
use Rattle.std.proofs.Common.{◌≡◌, ◌++◌, map, take}
use Rattle.std.specs.Prelude.{All}
use Rattle.rcv_dialogue.specs.declared.line.Again.TheVariants as again
use Rattle.rcv_dialogue.specs.Answers.{NamesInAgain}
use Rattle.rcv_guided.specs.Hearing.{accepted_of}
use Rattle.rcv_guided.proofs.session.GuidedSession.add_events.Given as goal

abbrev pub invariant-loop-event : goal.invariant-loop-event
invariant-loop-event l = record {
  items : l.lines.items ≡ l.initial.lines.items ++ map (λ e. again.Event e) (take l.event-index l.events);
  named : All (NamesInAgain (accepted_of l.self)) l.initial.lines.items → All (NamesInAgain (accepted_of l.self)) l.lines.items;
}
