-- What is written so far.
use Rattle.std.proofs.Common.{◌≡◌, ◌++◌, flat_map, take}
use Rattle.rcv_dialogue.specs.Answers.{role_line}
use Rattle.rcv_dialogue.proofs.write.roles.Given as goal

abbrev pub invariant-loop-state : goal.invariant-loop-state
invariant-loop-state l = l.text ≡ l.initial.text ++ flat_map (role_line l.accepted) (take l.state-index l.roles)
