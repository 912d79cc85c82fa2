-- What is written so far.
use Rattle.std.proofs.Common.{◌≡◌, ◌++◌, flat_map, take}
use Rattle.rcv_dialogue.specs.Answers.{count_text}
use Rattle.rcv_dialogue.proofs.write.counts.Given as goal

abbrev pub invariant-loop-role : goal.invariant-loop-role
invariant-loop-role l = l.text ≡ l.initial.text ++ flat_map (count_text l.accepted) (take l.role-index l.kept)
