-- A name that is longer is cut.
use Rattle.std.proofs.Common.{sym, arith}
use Rattle.std.proofs.lemmas.List.{length-take-le, take_all}
use Rattle.rcv_c.proofs.refusal.front.Goals as goal

pub slice_bounds-result-end : goal.slice_bounds-result-end
slice_bounds-result-end c =
    let more = c.if-name-le-ROOM.false in
    sym (length-take-le 64 c.args.name.now (omega (arith, more)))

pub returns-then-name-le-ROOM-clause-front : goal.returns-then-name-le-ROOM-clause-front
returns-then-name-le-ROOM-clause-front c = sym (take_all 64 c.args.name.now c.if-name-le-ROOM.true)

pub returns-else-name-le-ROOM-clause-few : goal.returns-else-name-le-ROOM-clause-few
returns-else-name-le-ROOM-clause-few c =
    let more = c.if-name-le-ROOM.false in
    let cut = length-take-le 64 c.args.name.now (omega (arith, more)) in
    omega (arith, cut)
