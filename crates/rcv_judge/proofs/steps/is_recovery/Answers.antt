-- What comes next of a crashed role is one recovery.
use Rattle.std.proofs.Common.{◌≡◌, ◌<◌, true, false, ap, subst, arith}
use Rattle.rcv_session.specs.Session.{SessionView, roles_of}
use Rattle.rcv_core.specs.Book.{IsRecoveryOf}
use Rattle.rcv_judge.proofs.Unique.{one_recover, recovers_declared}
use Rattle.rcv_judge.proofs.steps.is_recovery.Goals as goal

pub returns-then-role-roles : goal.returns-then-role-roles
returns-then-role-roles c = (
  (λ t. let wrong : false ≡ true = t in absurd (cc)),
  λ x.
      let low : c.args.role < roles_of c.args.book.now.setup = recovers_declared c.args.book.now c.args.role c.args.entry.now c.entries-entries.ensures.legal x in
      let roles : roles_of c.setup.result.now ≡ roles_of c.args.book.now.setup = ap (λ (s : SessionView). roles_of s) c.setup.ensures in
      let many = c.roles.ensures.value in
      let same = c.role.view_is in
      let high = c.if-role-roles.true in
      absurd (omega (arith, low, roles, many, same, high)),
)

pub returns : goal.returns
returns c = (
  (λ t. subst (IsRecoveryOf c.args.book.now c.args.role) (c.is_same.ensures.0 t) c.recovery_of.ensures),
  λ x. c.is_same.ensures.1 (one_recover c.args.book.now c.args.role c.recovery_of.result c.args.entry.now c.recovery_of.ensures x),
)
