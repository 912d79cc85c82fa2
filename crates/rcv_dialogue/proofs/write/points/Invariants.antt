-- What is written so far.
use Rattle.std.proofs.Common.{◌≡◌, ◌++◌, flat_map, take}
use Rattle.rcv_dialogue.specs.Answers.{number_text}
use Rattle.rcv_dialogue.proofs.write.points.Given as goal

abbrev pub invariant-loop-point : goal.invariant-loop-point
invariant-loop-point l = l.text ≡ l.initial.text ++ flat_map (number_text) (take l.point-index l.points)
