-- What those that follow say.
use Rattle.std.proofs.Common.{◌≡◌, drop}
use Rattle.std.specs.List.{list_all}
use Rattle.rcv_dialogue.specs.Answers.{is_done}
use Rattle.rcv_dialogue.proofs.write.are_done.Given as goal

abbrev pub invariant-loop-role : goal.invariant-loop-role
invariant-loop-role l = list_all (λ s. is_done s.state) (drop l.role-index l.fn.roles) ≡ list_all (λ s. is_done s.state) l.fn.roles
