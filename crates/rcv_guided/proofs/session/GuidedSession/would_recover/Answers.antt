-- It may recover.
use Rattle.std.proofs.Common.{true, subst, sym}
use Rattle.rcv_guide.specs.Guide.{MayRecover}
use Rattle.rcv_guide.proofs.Memories.{declared_by}
use Rattle.rcv_guided.specs.Session.{SessionView}
use Rattle.rcv_guided.proofs.Enough.{may_recover}
use Rattle.rcv_guided.proofs.session.GuidedSession.would_recover.Goals as goal

pub unreachable-requires : goal.unreachable-requires
unreachable-requires c =
    let may = subst (λ (s : SessionView). MayRecover s.guide c.args.role c.args.saved.now) (sym c.self.view_is) c.requires in
    let lt = declared_by c.self.inside.guide c.roles-roles.ensures.memory.memory c.roles-roles.ensures.memory.is c.args.role true may.down in
    may_recover c.self.inside.guide c.args.role c.args.saved.now c.in-Err._why lt may c.in-Err.ensures.cause
