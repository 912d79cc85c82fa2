-- What those that follow say.
use Rattle.std.proofs.Common.{◌≡◌, drop}
use Rattle.rcv_dialogue.specs.Reading.{names_role}
use Rattle.rcv_dialogue.proofs.failures.names_role.Given as goal

abbrev pub invariant-loop-failed : goal.invariant-loop-failed
invariant-loop-failed l = names_role l.fn.role (drop l.failed-index l.fn.found) ≡ names_role l.fn.role l.fn.found
