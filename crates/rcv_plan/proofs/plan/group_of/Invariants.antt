use Rattle.std.proofs.Common.{drop}
use Rattle.rcv_plan.proofs.Groups.{Gathers}
use Rattle.rcv_plan.proofs.plan.group_of.Given as goal

abbrev pub invariant-loop-member : goal.invariant-loop-member
invariant-loop-member l = Gathers l.fn.role l.member-items l.group.0 (drop l.member-index l.member-items)
