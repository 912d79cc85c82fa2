use Rattle.std.proofs.Common.{arith}
use Rattle.std.proofs.lemmas.Option.{slice_get-get_or}
use Rattle.rcv_do.specs.Code.{parts_in}
use Rattle.rcv_do.proofs.Faulting.{site_of, first_found, none_more, none_found, as_many_calls}
use Rattle.rcv_do.proofs.table.first_fault.Goals as goal

pub returns-in-Some-clause-first : goal.returns-in-Some-clause-first
returns-in-Some-clause-first c = λ e rows.
    let s = site_of (parts_in c.args.parts.now) c.args.calls.now c.loop-number.number _ e (slice_get-get_or c.args.calls.now c.loop-number.number _ c.loop-number-test.true) in
    first_found (parts_in c.args.parts.now) c.loop-number.number s.0 c.in-Some.fault s.1 (c.in-Some.ensures s.0 s.2 rows) (c.loop-number.invariant e rows)

pub loop-number-preserved : goal.loop-number-preserved
loop-number-preserved c = λ e rows.
    let s = site_of (parts_in c.args.parts.now) c.args.calls.now c.loop-number.number _ e (slice_get-get_or c.args.calls.now c.loop-number.number _ c.loop-number-test.true) in
    none_more (parts_in c.args.parts.now) c.loop-number.number s.0 s.1 (c.in_default.ensures s.0 s.2 rows) (c.loop-number.invariant e rows)

pub returns-clause-first : goal.returns-clause-first
returns-clause-first c = λ e rows.
    none_found (parts_in c.args.parts.now) c.loop-number.number (let long = as_many_calls (parts_in c.args.parts.now) c.args.calls.now e in omega (arith, long, c.loop-number-test.false)) (c.loop-number.invariant e rows)
