-- One role more; and all of them.
use Rattle.std.proofs.Common.{◌≡◌, ◌<◌, List, length, map, sym, ◌∙◌, ap, subst, Vec, Global, ℕ, arith}
use Rattle.std.specs.List.{All}
use Rattle.rcv_session.specs.Session.{roles_of}
use Rattle.rcv_costs.specs.Sampling.{of_role, all_counts, step_for, counts_in}
use Rattle.rcv_costs.specs.Costs.{AreOwnPoints, at, HasCosts}
use Rattle.rcv_costs.proofs.Sessions.{differs_joined}
use Rattle.rcv_costs.proofs.Runs.{calm_run}
use Rattle.rcv_costs.proofs.Adding.{IsCostBelow, own_behind, role_list, role_counts, role_each, role_few, all_told}
use Rattle.rcv_costs.proofs.crashes.costs_of.Goals as goal

pub step_of-step-requires-clause-few : goal.step_of-step-requires-clause-few
step_of-step-requires-clause-few c = omega (arith, ap length c.as_slice.ensures.value, c.in_ok-points.ensures.points.all, c.roles-roles.ensures.accepted.form.few_roles)

pub add_costs-requires-clause-points : goal.add_costs-requires-clause-points
add_costs-requires-clause-points c =
    let points = c.in_ok-points.points.items in
    let are = c.in_ok-points.ensures.points in
    let low : c.loop-role.role < roles_of c.args.setup.now = omega (arith, c.loop-role-test.true, c.roles-roles.ensures.value) in
    let same = c.as_slice-of_role.ensures.value ∙ role_list points c.loop-role.role c.index.result.now (omega (arith, low, are.all)) c.index.ensures in
    subst (AreOwnPoints c.loop-role.setup c.loop-role.role) (sym same) (own_behind c.args.setup.now c.loop-role.setup c.loop-role.role (of_role points c.loop-role.role) c.loop-role.invariant.differs (are.each c.loop-role.role low))

pub loop-role-preserved : goal.loop-role-preserved
loop-role-preserved c =
    let points = c.in_ok-points.points.items in
    let are = c.in_ok-points.ensures.points in
    let so = c.loop-role.invariant in
    let low : c.loop-role.role < roles_of c.args.setup.now = omega (arith, c.loop-role-test.true, c.roles-roles.ensures.value) in
    let lt : c.loop-role.role < length points = omega (arith, low, are.all) in
    let list = role_list points c.loop-role.role c.index.result.now lt c.index.ensures in
    let has = subst (λ (l : List ℕ). HasCosts c.loop-role.setup c.loop-role.role l c.step_of-step.result c.loop-role.list.items c.add_costs.new.list.items) (c.as_slice-of_role.ensures.value ∙ list) c.in_ok-add_costs.ensures.list in
    let short = are.short c.loop-role.role c.index.result.now lt in
    let few = role_few c.loop-role.setup (of_role points c.loop-role.role) c.step_of-step.result c.loop-role.role c.loop-role.list.items c.add_costs.new.list.items has (omega (arith, short, ap length list, ap (λ (v : Vec ℕ Global). length v.items) c.index.ensures)) in
    record {
      differs = differs_joined c.args.setup.now c.loop-role.setup c.add_costs.new.setup so.differs c.add_costs.ensures.setup;
      counts = role_counts c.args.setup.now c.loop-role.setup so.differs points c.step_of-step.result c.loop-role.role c.loop-role.list.items c.add_costs.new.list.items has so.counts;
      each = role_each c.args.setup.now c.loop-role.setup so.differs points c.step_of-step.result c.loop-role.role c.loop-role.list.items c.add_costs.new.list.items has so.each;
      few = omega (arith, few, so.few);
    }

pub returns-clause-costs : goal.returns-clause-costs
returns-clause-costs c =
    let points = c.in_ok-points.points.items in
    let so = c.loop-role.invariant in
    let all : c.loop-role.role ≡ roles_of c.args.setup.now = omega (arith, c.loop-role-test.false, c.loop-role.auto.role-end, c.roles-roles.ensures.value) in
    let run = calm_run c.args.setup.now c.roles-roles.ensures.accepted in
    all_told c.args.setup.now points _ run.0 run.1 c.in_ok-points.ensures.points
    (c.step_of-step.ensures.value ∙ ap (λ (l : List (Vec ℕ Global)). step_for (all_counts l)) c.as_slice.ensures.value)
    (subst (λ n. map at c.loop-role.list.items ≡ counts_in n (λ r. length (of_role points r)) c.step_of-step.result) all so.counts)
    (subst (λ n. All (IsCostBelow c.args.setup.now points n) c.loop-role.list.items) all so.each)

pub returns-clause-few : goal.returns-clause-few
returns-clause-few c = omega (arith, c.loop-role.invariant.few, c.loop-role.auto.role-end, c.roles-roles.ensures.value, c.roles-roles.ensures.accepted.form.few_roles)
