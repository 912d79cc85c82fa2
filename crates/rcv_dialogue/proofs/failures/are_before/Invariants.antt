-- What those that follow say.
use Rattle.std.proofs.Common.{◌≡◌, drop}
use Rattle.rcv_dialogue.specs.Reading.{are_before}
use Rattle.rcv_dialogue.proofs.failures.are_before.Given as goal

abbrev pub invariant-loop-kept : goal.invariant-loop-kept
invariant-loop-kept l = are_before l.fn.role (drop l.kept-index l.fn.found) ≡ are_before l.fn.role l.fn.found
