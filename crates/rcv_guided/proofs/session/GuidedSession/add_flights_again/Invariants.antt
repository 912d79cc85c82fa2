-- What is added so far.
use Rattle.std.proofs.Common.{◌≡◌, ◌++◌, map, take}
use Rattle.std.specs.Prelude.{All}
use Rattle.rcv_dialogue.specs.Answers.{NamesInAgain}
use Rattle.rcv_guided.specs.Hearing.{accepted_of}
use Rattle.rcv_guided.specs.Restoring.{flight_again}
use Rattle.rcv_guided.proofs.session.GuidedSession.add_flights_again.Given as goal

abbrev pub invariant-loop-sent : goal.invariant-loop-sent
invariant-loop-sent l = record {
  items : l.lines.items ≡ l.initial.lines.items ++ map (flight_again l.self) (take l.sent-index l.seeds);
  named : All (NamesInAgain (accepted_of l.self)) l.initial.lines.items → All (NamesInAgain (accepted_of l.self)) l.lines.items;
}
