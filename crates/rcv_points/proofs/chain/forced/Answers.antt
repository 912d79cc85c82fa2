-- A point that the role meets is one of the text.
use Rattle.std.proofs.Common.{◌<◌, length, sym, subst, arith}
use Rattle.rcv_model.specs.Net.{IsIn}
use Rattle.rcv_points.proofs.Adding.{in_at, item_of}
use Rattle.rcv_points.proofs.chain.forced.Goals as goal

pub is_of-requires-clause-first : goal.is_of-requires-clause-first
is_of-requires-clause-first c =
    let lt : 0 < length c.args.ahead.now = (let ge = c.in-len1.len_at_least in omega (arith, ge)) in
    (c.requires c.point-item.result (subst (λ y. IsIn y c.args.ahead.now) (sym (item_of c.args.ahead.now 0 c.point-item.result lt c.point-item.is)) (in_at c.args.ahead.now 0 lt))).0

pub is_of-requires-clause-last : goal.is_of-requires-clause-last
is_of-requires-clause-last c =
    let lt : 0 < length c.args.ahead.now = (let ge = c.in-len1.len_at_least in omega (arith, ge)) in
    (c.requires c.point-item.result (subst (λ y. IsIn y c.args.ahead.now) (sym (item_of c.args.ahead.now 0 c.point-item.result lt c.point-item.is)) (in_at c.args.ahead.now 0 lt))).1
