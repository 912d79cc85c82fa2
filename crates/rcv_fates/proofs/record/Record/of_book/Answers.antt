-- A legal journal is sound, and its undone events are marked.
use Rattle.std.proofs.Common.{subst}
use Rattle.rcv_accept.specs.Accepted.{IsAcceptedProtocol}
use Rattle.rcv_plan.specs.Lines.{IsPlanned}
use Rattle.rcv_session.specs.Session.{SessionView, roles_of}
use Rattle.rcv_fates.proofs.Recording.{recorded}
use Rattle.rcv_fates.proofs.record.Record.of_book.Goals as goal

pub new-requires : goal.new-requires
new-requires c =
    let plain = subst (λ (s : SessionView). IsAcceptedProtocol s.protocol) c.setup.ensures c.roles-roles.ensures.accepted in
    let planned = subst (λ (s : SessionView). IsPlanned (roles_of s) s.plan) c.setup.ensures c.roles-roles.ensures.planned in
    recorded c.args.book.now c.setup-2.result.now c.entries.result.now c.in_ok-undone.undone.items c.setup-2.ensures c.entries.ensures.value plain planned c.entries.ensures.legal c.in_ok-undone.ensures
