-- What is added so far.
use Rattle.std.proofs.Common.{◌≡◌, ◌++◌, map}
use Rattle.std.specs.Prelude.{All}
use Rattle.std.specs.List.{range_with_len}
use Rattle.rcv_dialogue.specs.Answers.{NamesInAgain}
use Rattle.rcv_guided.specs.Hearing.{accepted_of}
use Rattle.rcv_guided.specs.Restoring.{role_again}
use Rattle.rcv_guided.proofs.session.GuidedSession.add_roles.Given as goal

abbrev pub invariant-loop-role : goal.invariant-loop-role
invariant-loop-role l = record {
  items : l.lines.items ≡ l.initial.lines.items ++ map (role_again l.self) (range_with_len 0 l.role);
  named : All (NamesInAgain (accepted_of l.self)) l.initial.lines.items → All (NamesInAgain (accepted_of l.self)) l.lines.items;
}
