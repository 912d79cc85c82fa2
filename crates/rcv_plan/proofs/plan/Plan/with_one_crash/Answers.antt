-- The plan with one crash is one for the same roles.
use Rattle.std.proofs.Common.{rules, ◌≡◌, List, map, sym, subst}
use Rattle.rcv_model.specs.Plan.{PlanLine}
use Rattle.rcv_plan.specs.Lines.{line_in, IsPlanFor}
use Rattle.rcv_plan.specs.OneCrash.{with_one_crash}
use Rattle.rcv_plan.proofs.Alone.{one_planned}
use Rattle.rcv_plan.proofs.plan.Plan.with_one_crash.Goals as goal

pub returns-in_err-lines-clause-planned : goal.returns-in_err-lines-clause-planned
returns-in_err-lines-clause-planned c = one_planned c.args.roles c.args.role c.args.number c.args.self.now c.requires.declared c.requires.number c.requires.planned

pub of-requires-clause-fits : goal.of-requires-clause-fits
of-requires-clause-fits c =
    let is : map line_in c.in_ok-lines.lines.items ≡ with_one_crash c.args.role c.args.number c.args.self.now = search rules in
    subst (λ (p : List PlanLine). IsPlanFor c.args.roles p) (sym is)
    (one_planned c.args.roles c.args.role c.args.number c.args.self.now c.requires.declared c.requires.number c.requires.planned).fits

pub returns-clause-planned : goal.returns-clause-planned
returns-clause-planned c = one_planned c.args.roles c.args.role c.args.number c.args.self.now c.requires.declared c.requires.number c.requires.planned
