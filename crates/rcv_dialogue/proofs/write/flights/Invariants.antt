-- What is written so far.
use Rattle.std.proofs.Common.{◌≡◌, ◌++◌, flat_map, take}
use Rattle.rcv_dialogue.specs.Answers.{flight_line}
use Rattle.rcv_dialogue.proofs.write.flights.Given as goal

abbrev pub invariant-loop-one : goal.invariant-loop-one
invariant-loop-one l = l.text ≡ l.initial.text ++ flat_map (flight_line l.accepted) (take l.one-index l.flights)
