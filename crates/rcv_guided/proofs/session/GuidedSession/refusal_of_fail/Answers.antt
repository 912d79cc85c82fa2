-- Its roles are declared.
use Rattle.std.proofs.Common.{ap, arith}
use Rattle.rcv_guided.specs.Session.{SessionView, roles_in}
use Rattle.rcv_guided.proofs.Apart.{below_eight}
use Rattle.rcv_guided.proofs.session.GuidedSession.refusal_of_fail.Goals as goal

pub first_below-requires : goal.first_below-requires
first_below-requires c =
    let roles = ap (λ (s : SessionView). roles_in s) c.self.view_is in
    let value = c.roles-roles.ensures.value in
    let few = c.roles-roles.ensures.few in
    below_eight c.args.failed.now (roles_in c.args.self.now) (omega (arith, roles, value, few)) c.requires.declared
