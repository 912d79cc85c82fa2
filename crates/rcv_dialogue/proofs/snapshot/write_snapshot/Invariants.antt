-- What is written so far.
use Rattle.std.proofs.Common.{◌≡◌, ◌++◌, flat_map, take}
use Rattle.rcv_dialogue.specs.Answers.{again_line}
use Rattle.rcv_dialogue.proofs.snapshot.write_snapshot.Given as goal

abbrev pub invariant-loop-line : goal.invariant-loop-line
invariant-loop-line l = l.text ≡ l.initial.text ++ flat_map (again_line l.accepted) (take l.line-index l.lines)
