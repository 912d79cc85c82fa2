-- One role more.
use Rattle.std.proofs.Common.{rules, ◌≡◌, ◌≤◌, ◌∷◌, [], ℕ, length, length-append, sym, ◌∙◌, ap, subst, Vec, Global, List, arith}
use Rattle.rcv_session.specs.Session.{roles_of}
use Rattle.rcv_costs.specs.Sampling.{of_role, AreShort}
use Rattle.rcv_costs.specs.Costs.{AreOwnPoints}
use Rattle.rcv_costs.proofs.Sessions.{differs_joined, own_is}
use Rattle.rcv_costs.proofs.Adding.{all_and, one_role_told}
use Rattle.rcv_costs.proofs.crashes.all_points.Goals as goal

pub loop-role-preserved : goal.loop-role-preserved
loop-role-preserved c =
    let so = c.loop-role.invariant in
    let v = c.in_ok-own_points.field-0 in
    let items = c.in_ok-push.ensures.items in
    record {
      differs = differs_joined c.args.setup.now c.loop-role.setup c.own_points.new.setup so.differs c.own_points.ensures.setup;
      all = (let n = ap length items in let all = so.all in omega (arith, n, all, length-append c.loop-role.points.items (v ∷ [])));
      short = subst AreShort (sym items) (all_and (λ (p : Vec ℕ Global). length p.items ≤ 100000) c.loop-role.points.items v so.short c.in_ok-own_points.ensures.few);
      each = λ r lt. subst (λ (l : List (Vec ℕ Global)). AreOwnPoints c.args.setup.now r (of_role l r)) (sym items) (one_role_told c.args.setup.now c.loop-role.points.items v c.loop-role.role so.all so.each (own_is c.args.setup.now c.loop-role.setup so.differs c.loop-role.role v.items c.in_ok-own_points.ensures.points) r lt);
    }

pub returns-clause-points : goal.returns-clause-points
returns-clause-points c =
    let all : c.loop-role.role ≡ roles_of c.args.setup.now = search rules in
    record {
      all = c.loop-role.invariant.all ∙ all;
      short = c.loop-role.invariant.short;
      each = λ r lt. c.loop-role.invariant.each r (omega (arith, lt, all));
    }
