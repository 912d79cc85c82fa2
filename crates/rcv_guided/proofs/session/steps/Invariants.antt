use Rattle.std.proofs.Common.{◌≡◌, map}
use Rattle.std.specs.List.{range_with_len}
use Rattle.rcv_guided.specs.Session.{step_by}
use Rattle.rcv_guided.proofs.session.steps.Given as goal

abbrev pub invariant-loop-role : goal.invariant-loop-role
invariant-loop-role l = l.steps.items ≡ map (step_by l.saving l.plan) (range_with_len 0 l.role)
