-- The points are those of the text.
use Rattle.rcv_first_calls.proofs.Having.{is_declared, has_it, has_none}
use Rattle.rcv_first_calls.proofs.tables.has_point.Goals as goal

pub returns-then-not-is_within-clause-own : goal.returns-then-not-is_within-clause-own
returns-then-not-is_within-clause-own c =
    has_none c.args.accepted.now c.protocol-protocol.ensures.accepted c.args.role c.args.point c.points-points.result.now c.points-points.ensures
    (λ both. let t = c.is_within.ensures.1 both in let f = c.if-not-is_within.true in cc)

pub is_of-requires-clause-first : goal.is_of-requires-clause-first
is_of-requires-clause-first c = (c.is_within.ensures.0 c.if-not-is_within.false).0

pub is_of-requires-clause-last : goal.is_of-requires-clause-last
is_of-requires-clause-last c = (c.is_within.ensures.0 c.if-not-is_within.false).1

pub returns-clause-own : goal.returns-clause-own
returns-clause-own c =
    let both = c.is_within.ensures.0 c.if-not-is_within.false in
    has_it c.args.accepted.now c.protocol-protocol.ensures.accepted c.args.role c.args.point c.points-points.result.now c.points-points.ensures c.is_of.result both.0 both.1 c.is_of.ensures

pub returns-clause-declared : goal.returns-clause-declared
returns-clause-declared c t =
    let both = c.is_within.ensures.0 c.if-not-is_within.false in
    let own = has_it c.args.accepted.now c.protocol-protocol.ensures.accepted c.args.role c.args.point c.points-points.result.now c.points-points.ensures c.is_of.result both.0 both.1 c.is_of.ensures in
    is_declared c.args.accepted.now c.protocol-protocol.ensures.accepted c.args.role c.args.point (own.0 t)
