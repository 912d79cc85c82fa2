-- The table has a row for each point of a role.
use Rattle.std.proofs.Common.{◌<◌, subst, sym, arith}
use Rattle.std.specs.Prelude.{IsTrue, ◌↔◌}
use Rattle.rcv_model.specs.Table.{IsConcerned}
use Rattle.rcv_session.specs.Session.{roles_of, net_for}
use Rattle.rcv_tables.specs.Starts.{IsOwnPoint}
use Rattle.rcv_core.proofs.Books.{low_role}
use Rattle.rcv_role.specs.Part.{PartView}
use Rattle.rcv_role.proofs.Reaching.{owner, has_row, concerned_if, none_if}
use Rattle.rcv_role.proofs.part.Part.is_concerned.Goals as goal

pub returns-then-not-is_own_point : goal.returns-then-not-is_own_point
returns-then-not-is_own_point c = none_if c.args.self.now.setup c.args.role c.args.point c.args.self.now.role c.is_own_point.result c.is_own_point.ensures c.if-not-is_own_point.true

pub concerned-requires-clause-role : goal.concerned-requires-clause-role
concerned-requires-clause-role c =
    let own = subst (λ (p : PartView). IsOwnPoint (net_for p.setup) c.args.role c.args.point) (sym c.self.view_is) (c.is_own_point.ensures.0 c.if-not-is_own_point.false) in
    let low : c.args.role < roles_of c.self.inside.setup.now = owner c.self.inside.setup.now c.self.invariant.0.protocol c.args.point c.args.role own in
    let all = c.table.ensures.all in
    omega (arith, low, all)

pub concerned-requires-clause-point : goal.concerned-requires-clause-point
concerned-requires-clause-point c =
    let own = subst (λ (p : PartView). IsOwnPoint (net_for p.setup) c.args.role c.args.point) (sym c.self.view_is) (c.is_own_point.ensures.0 c.if-not-is_own_point.false) in
    has_row (net_for c.self.inside.setup.now) (roles_of c.self.inside.setup.now) c.table.result.now c.args.role c.args.point c.table.ensures (owner c.self.inside.setup.now c.self.invariant.0.protocol c.args.point c.args.role own) own.1

pub returns : goal.returns
returns c =
    let own = subst (λ (p : PartView). IsOwnPoint (net_for p.setup) c.args.role c.args.point) (sym c.self.view_is) (c.is_own_point.ensures.0 c.if-not-is_own_point.false) in
    subst (λ (p : PartView). IsTrue c.has.result ↔ (IsOwnPoint (net_for p.setup) c.args.role c.args.point × IsConcerned (net_for p.setup) c.args.role c.args.point p.role)) c.self.view_is
    (concerned_if c.self.inside.setup.now c.table.result.now c.args.role c.args.point c.self.inside.role c.concerned.result.0 c.has.result c.table.ensures own (low_role c.self.inside.setup.now c.self.inside.role c.self.invariant.0.protocol c.self.invariant.0.declared) c.concerned.ensures.exact c.has.ensures)
