use Rattle.std.proofs.Common.{rules, subst, List}
use Rattle.rcv_model.specs.Plan.{PlanLine}
use Rattle.rcv_plan.specs.Lines.{IsPlanFor}
use Rattle.rcv_plan.specs.Plans.{IsSilentOn}
use Rattle.rcv_plan.proofs.Rows.{silent, plan_for_more, if_none}
use Rattle.rcv_plan.proofs.plan.Plan.said_of.Goals as goal

pub returns-clause-fits : goal.returns-clause-fits
returns-clause-fits c = subst (λ (plan : List PlanLine). IsPlanFor 8 plan) c.self.view_is (plan_for_more _ 8 _ c.self.invariant.few c.self.invariant.fits)

pub returns-clause-none : goal.returns-clause-none
returns-clause-none c =
    if_none c.self.inside.rows.items c.args.role c.get.result (search rules)
    (λ l. subst (λ (plan : List PlanLine). IsSilentOn plan c.args.role) c.self.view_is (silent _ _ c.args.role c.self.invariant.fits l))
