use Rattle.std.proofs.Common.{refl}
use Rattle.rcv_plan.proofs.Exactly.{one_more, done, fails, planned, counted}
use Rattle.std.proofs.lemmas.Result.{err_from_is_err_and}
use Rattle.rcv_plan.proofs.read.items.Goals as goal

pub loop-alloc-preserved : goal.loop-alloc-preserved
loop-alloc-preserved c =
    one_more c.args.roles.now c.args.reader.now.rest c.loop-alloc.reader.rest c.item.new.self.rest c.loop-alloc.known c.item.new.known c.loop-alloc.invariant (c.loop-alloc-test.ensures.more refl) c.in_ok-item.ensures.goes

pub returns-clause-ok : goal.returns-clause-ok
returns-clause-ok c = done c.args.roles.now c.args.reader.now.rest c.loop-alloc.reader.rest c.loop-alloc.known c.loop-alloc.invariant (c.loop-alloc-test.ensures.done refl)

pub returns-clause-planned : goal.returns-clause-planned
returns-clause-planned c = planned c.args.roles.now c.args.reader.now.rest c.loop-alloc.reader.rest c.loop-alloc.known c.loop-alloc.invariant

pub returns-clause-counted : goal.returns-clause-counted
returns-clause-counted c = counted c.args.roles.now c.args.reader.now.rest c.loop-alloc.reader.rest c.loop-alloc.known c.loop-alloc.invariant

pub returns-in_err-item-clause-err : goal.returns-in_err-item-clause-err
returns-in_err-item-clause-err c =
    let p = err_from_is_err_and c.from_residual.result c.from_residual.ensures.1 in
    rw (p.1, p.2)
    (fails c.in_err-item.field-0.0 c.args.roles.now c.args.reader.now.rest c.loop-alloc.reader.rest _ c.loop-alloc.known c.item.new.known c.loop-alloc.invariant (c.loop-alloc-test.ensures.more refl) c.in_err-item.ensures.goes)
