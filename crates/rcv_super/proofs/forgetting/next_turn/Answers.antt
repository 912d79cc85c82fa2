-- There are few entries.
use Rattle.std.proofs.Common.{subst, arith}
use Rattle.rcv_accept.specs.Accepted.{IsAcceptedProtocol}
use Rattle.rcv_plan.specs.Lines.{IsPlanned}
use Rattle.rcv_session.specs.Session.{SessionView, roles_of}
use Rattle.rcv_super.proofs.Bases.{few_turns}
use Rattle.rcv_super.proofs.forgetting.next_turn.Goals as goal

pub overflow_add-result : goal.overflow_add-result
overflow_add-result c =
    let few = few_turns c.args.book.now.setup
    (subst (λ (s : SessionView). IsAcceptedProtocol s.protocol) c.setup.ensures c.roles-roles.ensures.accepted)
    (subst (λ (s : SessionView). IsPlanned (roles_of s) s.plan) c.setup.ensures c.roles-roles.ensures.planned) in
    let is = c.len-few.ensures.value in
    let most = c.len-few.ensures.few in
    let lt = c.requires in
    omega (arith, few, is, most, lt)
