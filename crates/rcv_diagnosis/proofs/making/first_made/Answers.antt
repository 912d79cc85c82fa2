-- Each role is asked in turn.
use Rattle.std.proofs.Common.{◌≡◌, ap, subst, ⊎_elim, arith}
use Rattle.std.proofs.lemmas.Bool.{cases_lt}
use Rattle.rcv_session.specs.Session.{SessionView, roles_of}
use Rattle.rcv_diagnosis.specs.Making.{CanMake}
use Rattle.rcv_diagnosis.proofs.Made.{least_made}
use Rattle.rcv_diagnosis.proofs.making.first_made.Goals as goal

pub returns-in-Some : goal.returns-in-Some
returns-in-Some c = least_made c.args.book.now c.loop-role.role c.in-Some.entry c.in-Some.ensures c.loop-role.invariant

pub loop-role-preserved : goal.loop-role-preserved
loop-role-preserved c r lt = ⊎_elim
    (λ below. c.loop-role.invariant r below)
    (λ above.
    let here : c.loop-role.role ≡ r = omega (arith, lt, above) in
    subst (λ q. CanMake c.args.book.now q → ⊥) here c.in_default.ensures)
    (cases_lt r c.loop-role.role)

pub returns : goal.returns
returns c r lt =
    let roles = ap (λ (s : SessionView). roles_of s) c.setup.ensures in
    let count = c.roles-role-end.ensures.value in
    let end = c.loop-role-test.false in
    c.loop-role.invariant r (omega (arith, lt, roles, count, end))
