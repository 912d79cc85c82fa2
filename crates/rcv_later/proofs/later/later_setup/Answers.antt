-- The later plan is one for the protocol's roles.
use Rattle.std.proofs.Common.{List, length, sym, subst}
use Rattle.rcv_model.specs.Plan.{PlanLine}
use Rattle.rcv_plan.specs.Lines.{IsPlanned}
use Rattle.rcv_later.proofs.later.later_setup.Goals as goal

pub new-requires-clause-planned : goal.new-requires-clause-planned
new-requires-clause-planned c =
    subst (λ (plan : List PlanLine). IsPlanned (length c.args.taken.accepted.protocol.roles) plan) (sym c.in_ok-plan.ensures.lines)
    (c.in_ok-plan.ensures.planned (length c.args.taken.accepted.protocol.roles) c.requires.planned)
