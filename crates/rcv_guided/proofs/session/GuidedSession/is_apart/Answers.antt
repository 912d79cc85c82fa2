-- Its roles are declared.
use Rattle.std.proofs.Common.{ap, arith}
use Rattle.rcv_guided.specs.Session.{SessionView, roles_in}
use Rattle.rcv_guided.proofs.session.GuidedSession.is_apart.Goals as goal

pub group-group-requires : goal.group-group-requires
group-group-requires c =
    let roles = ap (λ (s : SessionView). roles_in s) c.self.view_is in
    let value = c.roles-roles.ensures.value in
    let few = c.roles-roles.ensures.few in
    let some = c.requires.some in
    let lt = c.requires.declared 0 c.index-failed-0.result (omega (arith, some)) in
    omega (arith, roles, value, few, lt)
