-- Each role is asked in turn.
use Rattle.std.proofs.Common.{◌≡◌, ap, refl, subst, ⊎_elim, arith}
use Rattle.std.proofs.lemmas.Bool.{cases_lt}
use Rattle.rcv_model.specs.Final.{CanAct}
use Rattle.rcv_session.specs.Session.{roles_of, rules_of}
use Rattle.rcv_core.specs.Book.{BookView, state_of}
use Rattle.rcv_core.proofs.book.Book.some_can_act.Goals as goal

pub returns-then-can_act : goal.returns-then-can_act
returns-then-can_act c =
    let roles : roles_of c.self.inside.setup.now ≡ roles_of c.args.self.now.setup = ap (λ (b : BookView). roles_of b.setup) c.self.view_is in (
      (λ t. (c.loop-role.role, omega (arith, c.roles-role-end.ensures.value), c.can_act.ensures.0 c.if-can_act.true)),
      λ some. refl,
    )

pub loop-role-preserved : goal.loop-role-preserved
loop-role-preserved c r lt = ⊎_elim
    (λ below. c.loop-role.invariant r below)
    (λ above.
    let here : c.loop-role.role ≡ r = omega arith in
    subst (λ q. CanAct (rules_of c.args.self.now.setup) (state_of c.args.self.now) q → ⊥) here (λ able. let t = c.can_act.ensures.1 able in let no = c.if-can_act.false in absurd (cc)))
    (cases_lt r c.loop-role.role)

pub returns : goal.returns
returns c = (
  (λ t. absurd (cc)),
  λ some.
      let roles : roles_of c.self.inside.setup.now ≡ roles_of c.args.self.now.setup = ap (λ (b : BookView). roles_of b.setup) c.self.view_is in
      let low = some.1 in
      absurd (c.loop-role.invariant some.0 (omega (arith, low, c.roles-role-end.ensures.value)) some.2),
)
