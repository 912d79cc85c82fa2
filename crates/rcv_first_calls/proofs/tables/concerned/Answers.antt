-- The table has a row for the role's point.
use Rattle.rcv_accept.specs.Accepted.{roles_of, net_for}
use Rattle.rcv_tables.proofs.Reading.{has_rows}
use Rattle.rcv_first_calls.proofs.tables.concerned.Goals as goal

pub returns-then-not-has_point : goal.returns-then-not-has_point
returns-then-not-has_point c own = let t = c.has_point.ensures.own.1 own in let f = c.if-not-has_point.true in cc

pub concerned-requires-clause-role : goal.concerned-requires-clause-role
concerned-requires-clause-role c =
    (has_rows (net_for c.args.accepted.now) (roles_of c.args.accepted.now) c.in_ok-table.table c.args.role c.args.point c.in_ok-table.ensures
    (c.has_point.ensures.declared c.if-not-has_point.false) (c.has_point.ensures.own.0 c.if-not-has_point.false)).0

pub concerned-requires-clause-point : goal.concerned-requires-clause-point
concerned-requires-clause-point c =
    (has_rows (net_for c.args.accepted.now) (roles_of c.args.accepted.now) c.in_ok-table.table c.args.role c.args.point c.in_ok-table.ensures
    (c.has_point.ensures.declared c.if-not-has_point.false) (c.has_point.ensures.own.0 c.if-not-has_point.false)).1

pub returns : goal.returns
returns c = c.concerned.ensures.exact (net_for c.args.accepted.now) (roles_of c.args.accepted.now) c.in_ok-table.ensures (c.has_point.ensures.own.0 c.if-not-has_point.false)
