use Rattle.std.proofs.Common.{◌≡◌, take}
use Rattle.rcv_plan.proofs.line.copied.Given as goal

abbrev pub invariant-loop-role : goal.invariant-loop-role
invariant-loop-role l = l.copy ≡ take l.role-index l.roles
