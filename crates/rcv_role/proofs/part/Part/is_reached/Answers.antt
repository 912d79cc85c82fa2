-- The plan tells the group.
use Rattle.std.proofs.Common.{List, true, subst, sym}
use Rattle.std.specs.Prelude.{IsTrue, ◌↔◌}
use Rattle.rcv_model.specs.Plan.{PlanLine}
use Rattle.rcv_plan.specs.Plans.{IsGroup}
use Rattle.rcv_model.specs.Table.{IsConcerned}
use Rattle.rcv_tables.specs.Starts.{IsOwnPoint}
use Rattle.rcv_session.specs.Session.{net_for}
use Rattle.rcv_core.proofs.Books.{low_role}
use Rattle.rcv_role.specs.Part.{PartView, ReachesRole}
use Rattle.rcv_role.proofs.Reaching.{of_group, else_concerned}
use Rattle.rcv_role.proofs.part.Part.is_reached.Goals as goal

pub returns-then-has : goal.returns-then-has
returns-then-has c =
    let group = subst (λ (l : List PlanLine). IsGroup l c.args.role c.group.result.0) c.plan.ensures.value c.group.ensures in
    subst (λ (p : PartView). IsTrue true ↔ ReachesRole p.setup c.args.role c.args.point p.role) c.self.view_is
    (of_group c.self.inside.setup.now c.args.role c.args.point c.self.inside.role c.group.result.0 c.has.result group (low_role c.self.inside.setup.now c.self.inside.role c.self.invariant.0.protocol c.self.invariant.0.declared) c.has.ensures c.if-has.true)

pub returns : goal.returns
returns c =
    let group = subst (λ (l : List PlanLine). IsGroup l c.args.role c.group.result.0) c.plan.ensures.value c.group.ensures in
    subst (λ (p : PartView). IsTrue c.is_concerned.result ↔ ReachesRole p.setup c.args.role c.args.point p.role) c.self.view_is
    (else_concerned c.self.inside.setup.now c.args.role c.args.point c.self.inside.role c.group.result.0 c.has.result c.is_concerned.result group (low_role c.self.inside.setup.now c.self.inside.role c.self.invariant.0.protocol c.self.invariant.0.declared) c.has.ensures c.if-has.false
    (subst (λ (p : PartView). IsTrue c.is_concerned.result ↔ (IsOwnPoint (net_for p.setup) c.args.role c.args.point × IsConcerned (net_for p.setup) c.args.role c.args.point p.role)) (sym c.self.view_is) c.is_concerned.ensures))
