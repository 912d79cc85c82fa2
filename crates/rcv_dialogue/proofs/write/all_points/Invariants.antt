-- What is written so far.
use Rattle.std.proofs.Common.{◌≡◌, ◌++◌, flat_map}
use Rattle.std.specs.List.{range_with_len}
use Rattle.rcv_dialogue.specs.Answers.{point_line}
use Rattle.rcv_dialogue.proofs.write.all_points.Given as goal

abbrev pub invariant-loop-before : goal.invariant-loop-before
invariant-loop-before l = l.text ≡ l.initial.text ++ flat_map (point_line l.accepted) (range_with_len 1 l.before)
